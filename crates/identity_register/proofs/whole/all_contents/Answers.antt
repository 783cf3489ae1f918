-- What was placed are the rows that the tables have.
use Rattle.std.proofs.Common.{sym, subst}
use Rattle.std.specs.List.{AllByRecursion}
use Rattle.std.specs.Ordering.{int_cmp, on}
use Rattle.store_sql.proofs.Staying.{looks_stays, stays_then}
use Rattle.package_tables.specs.Calls.{AreAll}
use Rattle.identity_register.specs.Gathered.{IsPlaced}
use Rattle.identity_register.proofs.Looking.{looked, looked_then, fails}
use Rattle.identity_register.proofs.Gathering.{contents_are, tells_if}
use Rattle.identity_register.proofs.whole.all_contents.Goals as goal

pub returns-in_err-rows : goal.returns-in_err-rows
returns-in_err-rows g c = fails c.from_residual-in_err-rows.result c.from_residual-in_err-rows.ensures.0
    (stays_then (stays_then (looks_stays c.all_tiles.ensures) (looks_stays c.all_media.ensures))
    (looks_stays c.all_attributes.ensures))

pub returns : goal.returns
returns g c =
    let tiles = c.in_ok-tiles.tiles.items in
    let media = c.in_ok-media.media.items in
    let rows = c.in_ok-rows.rows.items in
    tells_if (λ t placed. AllByRecursion (IsPlaced t) placed.items) c.contents_of.result
    (looked_then (λ t found. AreAll (on (λ x. x.id) int_cmp) t.rows found.items)
    (looked_then (λ t found. AreAll (on (λ x. x.id) int_cmp) t.media found.items)
    (looked (λ t found. AreAll (on (λ x. x.id) int_cmp) t.tiles found.items) c.in_ok-tiles.was
    c.all_tiles.ensures) c.in_ok-media.was c.all_media.ensures) c.in_ok-rows.was c.all_attributes.ensures)
    (λ x e t h. subst (AllByRecursion (IsPlaced t)) (sym (rw e at c.contents_of.ensures))
    (contents_are t tiles media rows h.0.0.0 h.0.1.0 h.1.0))
