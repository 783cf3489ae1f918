-- One key more is among them.
use Rattle.std.proofs.Common.{◌≡◌, true, sym, subst}
use Rattle.std.specs.List.{list_any}
use Rattle.std.specs.Ordering.{eq_by_cmp}
use Rattle.package_items.proofs.Deciding.{each_yes}
use Rattle.package_items.proofs.sorted.has_all.Goals as goal

pub loop-key-preserved : goal.loop-key-preserved
loop-key-preserved g c =
    let sorted = c.args.sorted.now in
    let cmp = g.K.Ord.cmp in
    each_yes (λ x. list_any (λ k. eq_by_cmp cmp k x) sorted ≡ true) c.args.keys.now c.loop-key.key-index
    c.key-item.result c.loop-key-test.true
    (subst (λ x. list_any (λ k. eq_by_cmp cmp k x) sorted ≡ true) c.key-item.is (sym c.if-not-has.ensures))
    c.loop-key.invariant
