use Rattle.std.proofs.Common.{◌≡◌, ◌∙◌, ap, pos, arith, w64, to_z}
use Rattle.std.proofs.lemmas.Int.{to_z_pos}
use Rattle.sheet_types.specs.Texts.{uuid_text}
use Rattle.package_tables.specs.Listed.{heads}
use Rattle.package_tables.specs.Changes.{Adds}
use Rattle.package_tables.specs.Creation.{head_of}
use Rattle.package_tables.proofs.Stepping.{makes_steps}
use Rattle.package_creation.proofs.create.insert_info.Goals as goal

pub returns-clause-steps : goal.returns-clause-steps
returns-clause-steps g c =
    let i = c.args.info.now in
    let depth : to_z w64 i.depth ≡ pos i.depth = to_z_pos w64 i.depth (omega (arith, c.requires.0)) in
    let loan : to_z w64 i.loan ≡ pos i.loan = to_z_pos w64 i.loan (omega (arith, c.requires.1)) in
    makes_steps (Adds heads (head_of i.package i.parent i.depth i.loan i.created.now))
    (rw (
      c.encode_lower-package.ensures.text ∙ ap uuid_text c.hyphenated.ensures,
      c.encode_lower-parent.ensures,
      depth,
      loan,
    ) at c.insert_head.ensures.wrote) c.insert_head.ensures.survives
