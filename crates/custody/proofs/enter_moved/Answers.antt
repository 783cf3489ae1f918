use Rattle.std.proofs.Common.{◌∙◌, rules, ap, to_z-of_z, FitsSigned, w64}
use Rattle.sheet_types.specs.Texts.{uuid_text}
use Rattle.custody.proofs.Entering.{moved_steps}
use Rattle.custody.proofs.enter_moved.Goals as goal

pub returns-clause-steps : goal.returns-clause-steps
returns-clause-steps g c =
    let seq_fits : FitsSigned w64 c.in_ok-seq.seq = search rules in
    let position_fits : FitsSigned w64 c.in_ok-position.position = search rules in
    let kind_fits : FitsSigned w64 c.number_of_kind-kind.result = search rules in
    let size_fits : FitsSigned w64 c.in_ok-size.size = search rules in
    moved_steps c.args.seq c.args.position c.args.moved (simp
    (to_z-of_z, seq_fits, position_fits, kind_fits, size_fits) at c.insert_moved.ensures.wrote)
    c.insert_moved.ensures.survives
    c.in_ok-seq.ensures.stored c.in_ok-position.ensures.stored c.number_of_kind-kind.ensures
    (c.encode_lower-base.ensures.text ∙ ap uuid_text c.hyphenated.ensures)
    c.encode_lower-other.ensures c.in_ok-size.ensures.stored c.digest_text-digest.ensures
