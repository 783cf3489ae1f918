-- One more that is not named.
use Rattle.std.proofs.Common.{◌≡◌, ◌∙◌, sym, false}
use Rattle.std.specs.Ordering.{nat_cmp}
use Rattle.std.specs.Cmp.Lexicographic.{slice_cmp}
use Rattle.std.specs.BTreeSet.{contains}
use Rattle.sheet_ledger.proofs.Walking.{all_more}
use Rattle.sheet_ledger.proofs.newness.none_is_named.Goals as goal

pub loop-moved-preserved : goal.loop-moved-preserved
loop-moved-preserved c =
    all_more (λ m. contains (slice_cmp nat_cmp) c.args.named.now m.base ≡ false) c.args.things.now
    c.loop-moved.moved-index c.moved-item.result c.loop-moved-test.true c.moved-item.is c.loop-moved.invariant
    (sym c.contains.ensures ∙ c.if-contains.false)
