-- One key is set.
use Rattle.std.proofs.Common.{◌≡◌, ◌∙◌, subst, Some}
use Rattle.std.specs.Ordering.{nat_cmp}
use Rattle.std.specs.Cmp.Lexicographic.{slice_cmp}
use Rattle.std.specs.BTreeMap.{Updates}
use Rattle.sheet_ledger.proofs.Telling.{told_one}
use Rattle.sheet_ledger.proofs.agreeing.note.Goals as goal

pub returns : goal.returns
returns c =
    told_one c.args.told.now c.insert.new.self c.args.moved.now c.one_more-more.result c.one_more-more.ensures
    (subst (λ k. Updates (slice_cmp nat_cmp) c.args.told.now c.insert.new.self k (Some c.one_more-more.result))
    c.of_moved.ensures c.in_ok-insert.ensures.updates)
