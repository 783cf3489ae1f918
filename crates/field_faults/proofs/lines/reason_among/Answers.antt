-- A place is looked up in the set, an identity in those that are known.
use Rattle.std.proofs.Common.{rules, refl, ◌≡◌, ◌∙◌, ap, sym}
use Rattle.std.specs.Ordering.{nat_cmp}
use Rattle.std.specs.Cmp.Lexicographic.{slice_cmp}
use Rattle.std.specs.BTreeSet.{contains}
use mir.Syntax.{w64}
use mir.Val.{SFits}
use Rattle.std.proofs.lemmas.Int.{to_z-of_z}
use Rattle.sheet_types.specs.Texts.{kind_of}
use Rattle.field_faults.specs.Lines.{ids_of}
use Rattle.field_faults.proofs.Places.{of_number, of_tile}
use Rattle.field_faults.proofs.lines.reason_among.Goals as goal

pub returns-in-Tile : goal.returns-in-Tile
returns-in-Tile c = λ before has.
    let zoom : SFits w64 c.in-Tile.zoom = search rules in
    let column : SFits w64 c.in-Tile.column = search rules in
    let row : SFits w64 c.in-Tile.row = search rules in
    let key = simp (to_z-of_z, zoom, column, row) at c.place_key.ensures in
    let judge = c.args.judge.now in
    let with = simp (to_z-of_z, zoom, column, row) at (rw c.as_slice.ensures at
    (c.is_taken_with-taken.ensures judge.items.now c.requires.tiles)) in
    c.tile_reason.ensures
    ∙ of_tile judge.frame.now judge.items.now judge.more c.args.exported before c.args.item.now c.in-Tile.zoom
    c.in-Tile.column c.in-Tile.row c.in-Tile.bytes (sym c.get.ensures ∙ c.in-Tile.is) c.contains-twice.result
    c.is_taken_with-taken.result
    (c.contains-twice.ensures ∙ ap (contains (slice_cmp nat_cmp) c.args.places.now) key
    ∙ has c.in-Tile.zoom c.in-Tile.column c.in-Tile.row) with

pub returns-in-Media : goal.returns-in-Media
returns-in-Media c = λ before has.
    let judge = c.args.judge.now in
    let numbers = c.requires in
    let ids : c.as_slice-ids.result.now ≡ ids_of (kind_of c.args.item.now.content) judge.items.now =
    c.as_slice-ids.ensures.value ∙ numbers.media ∙ ap (λ k. ids_of (kind_of k) judge.items.now)
    (sym c.in-Media.is ∙ c.get.ensures) in
    c.number_reason.ensures
    ∙ of_number judge.frame.now judge.items.now judge.more c.args.exported before c.args.item.now _
    (sym c.get.ensures ∙ c.in-Media.is)
    c.is_renumbered_in.result
    (c.is_renumbered_in.ensures judge.items.now ids numbers.known) refl

pub returns-in-Row : goal.returns-in-Row
returns-in-Row c = λ before has.
    let judge = c.args.judge.now in
    let numbers = c.requires in
    let ids : c.as_slice-ids-in-Row.result.now ≡ ids_of (kind_of c.args.item.now.content) judge.items.now =
    c.as_slice-ids-in-Row.ensures.value ∙ numbers.rows ∙ ap (λ k. ids_of (kind_of k) judge.items.now)
    (sym c.in-Row.is ∙ c.get.ensures) in
    c.number_reason-in-Row.ensures
    ∙ of_number judge.frame.now judge.items.now judge.more c.args.exported before c.args.item.now _
    (sym c.get.ensures ∙ c.in-Row.is)
    c.is_renumbered_in-in-Row.result
    (c.is_renumbered_in-in-Row.ensures judge.items.now ids numbers.known) refl
