-- The bytes of a tile are noted at its place, and nothing else.
use Rattle.std.proofs.Common.{rules, refl, ◌≡◌}
use mir.Syntax.{w64}
use mir.Val.{SFits}
use Rattle.std.proofs.lemmas.Int.{to_z-of_z}
use Rattle.std.specs.Ordering.{nat_cmp}
use Rattle.std.specs.Cmp.Lexicographic.{slice_cmp}
use Rattle.std.specs.BTreeMap.{get}
use Rattle.std.specs.Prelude.{Some}
use Rattle.field_changes.proofs.Sets.{at_key}
use Rattle.field_faults.specs.Lines.{has_other, place_key}
use Rattle.field_faults.proofs.Places.{no_tile_noted, tile_noted}
use Rattle.field_faults.proofs.lines.note_tile.Goals as goal

pub returns-in-Media : goal.returns-in-Media
returns-in-Media c = λ zoom column row mine. no_tile_noted c.args.item.now _ c.in-Media.is (λ z k r. refl)
    (has_other (get (slice_cmp nat_cmp) c.args.tiles.now (place_key zoom column row)) mine) zoom column row mine

pub returns-in-Row : goal.returns-in-Row
returns-in-Row c = λ zoom column row mine. no_tile_noted c.args.item.now _ c.in-Row.is (λ z k r. refl)
    (has_other (get (slice_cmp nat_cmp) c.args.tiles.now (place_key zoom column row)) mine) zoom column row mine

pub returns-in_ok-insert-in-Tile : goal.returns-in_ok-insert-in-Tile
returns-in_ok-insert-in-Tile c =
    let zoom : SFits w64 c.in-Tile.zoom = search rules in
    let column : SFits w64 c.in-Tile.column = search rules in
    let row : SFits w64 c.in-Tile.row = search rules in
    let key = simp (to_z-of_z, zoom, column, row) at c.place_key-key.ensures in
    let known : c.copied.result ≡ get (slice_cmp nat_cmp) c.args.tiles.now c.place_key-key.result = search rules in
    let with = rw (known, c.as_slice.ensures) at c.lying_with-lying.ensures in
    tile_noted c.in-Tile.zoom c.in-Tile.column c.in-Tile.row c.in-Tile.bytes c.args.item.now c.in-Tile.is
    c.args.tiles.now c.insert.new.self c.place_key-key.result c.lying_with-lying.result key with
    (λ q. at_key c.args.tiles.now c.insert.new.self c.place_key-key.result (Some c.lying_with-lying.result)
    c.in_ok-insert-in-Tile.ensures.updates q)
