-- The target of a split is put in.
use Rattle.std.proofs.Common.{◌≡◌, ◌∙◌, sym, ap, true, ◌&&◌, ◌||◌, Some}
use Rattle.std.specs.Ordering.{nat_cmp}
use Rattle.std.specs.Cmp.Lexicographic.{slice_cmp}
use Rattle.std.specs.BTreeSet.{contains}
use Rattle.sheet_types.specs.Custody.{is_split, ends_at}
use Rattle.sheet_ledger.proofs.Sets.{put_in}
use Rattle.sheet_ledger.proofs.newness.note_target.Goals as goal

pub returns-clause-noted : goal.returns-clause-noted
returns-clause-noted c = λ p.
    let split : is_split c.args.receipt.now ≡ true = sym c.is_split.ensures ∙ c.if-not-is_split.false in
    put_in c.args.lent.now c.insert.new.self c.in-Some.target c.in_ok-insert.ensures.updates p
    ∙ ap (λ v. contains (slice_cmp nat_cmp) c.args.lent.now p || (v && ends_at (Some c.in-Some.target) p))
    (sym split)
    ∙ ap (λ o. contains (slice_cmp nat_cmp) c.args.lent.now p || (is_split c.args.receipt.now && ends_at o p))
    (sym c.in-Some.is)
