-- The items of all identity rows and their contents are those of the package.
use Rattle.std.proofs.Common.{subst, IfOk}
use Rattle.std.specs.Prelude.{IsPermutation}
use Rattle.std.specs.List.{AllByRecursion}
use Rattle.store_sql.proofs.Staying.{looks_stays}
use Rattle.sheet_types.specs.Ordered.{IsArranged}
use Rattle.sheet_types.specs.World.{item_key}
use Rattle.identity_register.specs.Gathered.{IsPlaced, AreItemsBy}
use Rattle.identity_register.proofs.Looking.{looked, fails}
use Rattle.identity_register.proofs.Gathering.{items_are, tells_if}
use Rattle.identity_register.proofs.whole.items_by.Goals as goal

pub returns-in_err-items : goal.returns-in_err-items
returns-in_err-items g c = fails c.from_residual-in_err-items.result c.from_residual-in_err-items.ensures.0
    (looks_stays c.all_contents.ensures)

pub returns : goal.returns
returns g c =
    let rows = c.args.rows.now in
    let placed = c.in_ok-placed.placed.items in
    let made = c.in_ok-items.items.items in
    tells_if (λ t found. AreItemsBy rows t found.items) c.items_in_order.result
    (looked (λ t found. AllByRecursion (IsPlaced t) found.items) c.in_ok-placed.was c.all_contents.ensures)
    (λ x e t h f p says all. items_are f p t says rows placed made x.items all h c.in_ok-items.ensures
    (subst (λ r. IfOk r (λ sorted. IsPermutation made sorted.items)) e c.items_in_order.ensures.same)
    (subst (λ r. IfOk r (λ sorted. IsArranged item_key sorted.items)) e c.items_in_order.ensures.order))
