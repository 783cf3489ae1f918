-- The place of a tile is noted, and no other.
use Rattle.std.proofs.Common.{rules, refl, ◌≡◌, ◌∙◌, sym}
use Rattle.std.specs.Prelude.{is_none}
use mir.Syntax.{w64}
use mir.Val.{SFits}
use Rattle.std.proofs.lemmas.Int.{to_z-of_z}
use Rattle.std.specs.Ordering.{nat_cmp}
use Rattle.std.specs.Cmp.Lexicographic.{slice_cmp}
use Rattle.std.specs.BTreeSet.{contains}
use Rattle.field_faults.specs.Lines.{place_key}
use Rattle.field_faults.specs.Reasons.{reason_of}
use Rattle.field_faults.proofs.Places.{no_tile, noted}
use Rattle.field_faults.proofs.lines.note_place.Goals as goal

pub returns-in_ok-note_key-in-Tile : goal.returns-in_ok-note_key-in-Tile
returns-in_ok-note_key-in-Tile c =
    let zoom : SFits w64 c.in-Tile.zoom = search rules in
    let column : SFits w64 c.in-Tile.column = search rules in
    let row : SFits w64 c.in-Tile.row = search rules in
    let key = simp (to_z-of_z, zoom, column, row) at c.place_key.ensures in
    let fit : c.is_none-fits.result ≡ is_none (reason_of c.args.frame.now c.args.item.now.content) = search rules in
    noted c.args.frame.now c.args.item.now c.in-Tile.zoom c.in-Tile.column c.in-Tile.row c.in-Tile.bytes
    (sym c.get-content.ensures ∙ c.in-Tile.is) c.args.places.now c.note_key.new.places c.place_key.result
    c.is_none-fits.result key fit
    c.in_ok-note_key-in-Tile.ensures

pub returns-in-Media : goal.returns-in-Media
returns-in-Media c = λ zoom column row. no_tile c.args.frame.now c.args.item.now _
    (sym c.get-content.ensures ∙ c.in-Media.is) (λ z k r. refl)
    (contains (slice_cmp nat_cmp) c.args.places.now (place_key zoom column row)) zoom column row

pub returns-in-Row : goal.returns-in-Row
returns-in-Row c = λ zoom column row. no_tile c.args.frame.now c.args.item.now _
    (sym c.get-content.ensures ∙ c.in-Row.is) (λ z k r. refl)
    (contains (slice_cmp nat_cmp) c.args.places.now (place_key zoom column row)) zoom column row
