-- The row that was found, with its kind and its number.
use Rattle.std.proofs.Common.{ap, ◌∙◌, Ok, Some, None, refl}
use Rattle.identity_register.specs.Gathered.{tile_placed, medium_placed, attributes_placed}
use Rattle.package_items.specs.declared.user_tables.UserTable.TheVariants.{TileTable, MediaTable, RowTable}
use Rattle.package_items.proofs.Walking.{found_next}
use Rattle.package_items.proofs.next_rows.next_row.Goals as goal

pub returns-in-None : goal.returns-in-None
returns-in-None g c = found_next c.args.table TileTable c.args.last tile_placed (λ t. t.tiles) (λ t. refl)
    c.in-TileTable.is None None refl (c.in_ok-tile_past-in-TileTable.was ∙ ap Ok c.in-None.is) c.tile_past.ensures

pub returns-in-Some : goal.returns-in-Some
returns-in-Some g c = found_next c.args.table TileTable c.args.last tile_placed (λ t. t.tiles) (λ t. refl)
    c.in-TileTable.is (Some c.in-Some.tile) (Some c.placed_tile.result) (ap Some c.placed_tile.ensures)
    (c.in_ok-tile_past-in-TileTable.was ∙ ap Ok c.in-Some.is) c.tile_past.ensures

pub returns-in-None-2 : goal.returns-in-None-2
returns-in-None-2 g c = found_next c.args.table MediaTable c.args.last medium_placed (λ t. t.media) (λ t. refl)
    c.in-MediaTable.is None None refl (c.in_ok-medium_past-in-MediaTable.was ∙ ap Ok c.in-None-2.is)
    c.medium_past.ensures

pub returns-in-Some-2 : goal.returns-in-Some-2
returns-in-Some-2 g c = found_next c.args.table MediaTable c.args.last medium_placed (λ t. t.media) (λ t. refl)
    c.in-MediaTable.is (Some c.in-Some-2.medium) (Some c.placed_medium.result) (ap Some c.placed_medium.ensures)
    (c.in_ok-medium_past-in-MediaTable.was ∙ ap Ok c.in-Some-2.is) c.medium_past.ensures

pub returns-in-None-3 : goal.returns-in-None-3
returns-in-None-3 g c = found_next c.args.table RowTable c.args.last attributes_placed (λ t. t.rows) (λ t. refl)
    c.in-RowTable.is None None refl (c.in_ok-attributes_past-in-RowTable.was ∙ ap Ok c.in-None-3.is)
    c.attributes_past.ensures

pub returns-in-Some-3 : goal.returns-in-Some-3
returns-in-Some-3 g c = found_next c.args.table RowTable c.args.last attributes_placed (λ t. t.rows) (λ t. refl)
    c.in-RowTable.is (Some c.in-Some-3.row) (Some c.placed_attributes.result) (ap Some c.placed_attributes.ensures)
    (c.in_ok-attributes_past-in-RowTable.was ∙ ap Ok c.in-Some-3.is) c.attributes_past.ensures
