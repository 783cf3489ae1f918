-- The kind says which table has the row, and the row that was found holds the content.
use Rattle.std.proofs.Common.{◌≡◌, pos, arith}
use Rattle.std.proofs.lemmas.Int.{to_z-of_z, ints}
use Rattle.store_sql.proofs.Staying.{looks_stays}
use Rattle.identity_register.proofs.Looking.{fails}
use Rattle.identity_register.proofs.Contents.{content_found}
use Rattle.identity_register.proofs.look_ups.content_of.Goals as goal

pub returns-in_err-tile-in-1 : goal.returns-in_err-tile-in-1
returns-in_err-tile-in-1 g c = fails c.from_residual-in_err-tile-in-1.result
    c.from_residual-in_err-tile-in-1.ensures.0 (looks_stays c.tile_by_id.ensures)

pub returns-in_err-medium-in-2 : goal.returns-in_err-medium-in-2
returns-in_err-medium-in-2 g c = fails c.from_residual-in_err-medium-in-2.result
    c.from_residual-in_err-medium-in-2.ensures.0 (looks_stays c.medium_by_id.ensures)

pub returns-in_err-row-in-3 : goal.returns-in_err-row-in-3
returns-in_err-row-in-3 g c = fails c.from_residual-in_err-row-in-3.result c.from_residual-in_err-row-in-3.ensures.0
    (looks_stays c.attribute_by_id.ensures)

pub returns-in_ok-tile-in-1 : goal.returns-in_ok-tile-in-1
returns-in_ok-tile-in-1 g c =
    let number = c.ranges.number in
    let kind : c.args.kind ≡ pos 1 = omega (arith, ints) in
    rw c.of_tile.ensures (content_found (λ r. r.id) (λ t. t.tiles) c.args.kind c.args.number
    c.in_ok-tile_by_id-in-1.was c.ok_or.ensures.ok_part c.in_ok-tile-in-1.was
    (simp to_z-of_z at c.tile_by_id.ensures) (λ t there. (kind, there)))

pub returns-in_ok-medium-in-2 : goal.returns-in_ok-medium-in-2
returns-in_ok-medium-in-2 g c =
    let number = c.ranges.number in
    let kind : c.args.kind ≡ pos 2 = omega (arith, ints) in
    rw c.of_medium.ensures (content_found (λ r. r.id) (λ t. t.media) c.args.kind c.args.number
    c.in_ok-medium_by_id-in-2.was c.ok_or-in-2.ensures.ok_part c.in_ok-medium-in-2.was
    (simp to_z-of_z at c.medium_by_id.ensures) (λ t there. (kind, there)))

pub returns-in_ok-row-in-3 : goal.returns-in_ok-row-in-3
returns-in_ok-row-in-3 g c =
    let number = c.ranges.number in
    let kind : c.args.kind ≡ pos 3 = omega (arith, ints) in
    rw c.of_attributes.ensures (content_found (λ r. r.id) (λ t. t.rows) c.args.kind c.args.number
    c.in_ok-attribute_by_id-in-3.was c.ok_or-in-3.ensures.ok_part c.in_ok-row-in-3.was
    (simp to_z-of_z at c.attribute_by_id.ensures) (λ t there. (kind, there)))
