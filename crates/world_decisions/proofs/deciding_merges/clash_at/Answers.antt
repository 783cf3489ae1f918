-- A tile is looked up in the other package; what has no place is not.
use Rattle.std.proofs.Common.{◌∙◌, ap, sym, None, rules}
use Rattle.std.specs.Bool.{then_some}
use mir.Syntax.{w64}
use mir.Val.{SFits}
use Rattle.std.proofs.lemmas.Int.{to_z-of_z}
use Rattle.sheet_types.specs.Refuse.{takes_place}
use Rattle.world_decisions.specs.DecidingMerges.{clash_of}
use Rattle.world_decisions.proofs.Clashing.{clash_told}
use Rattle.world_queries.proofs.Questions.{asks_still, asks_answer}
use Rattle.world_decisions.proofs.deciding_merges.clash_at.Goals as goal

pub returns-in_ok-taken-in-Tile : goal.returns-in_ok-taken-in-Tile
returns-in_ok-taken-in-Tile g c =
    let zoom : SFits w64 c.in-Tile.zoom = search rules in
    let column : SFits w64 c.in-Tile.column = search rules in
    let row : SFits w64 c.in-Tile.row = search rules in
    let asked = simp (to_z-of_z, zoom, column, row) at c.has_tile_in.ensures in
    let made = simp (to_z-of_z, zoom, column, row) at (rw (
      c.unsigned_abs.ensures.value,
      c.unsigned_abs-in-Tile.ensures.value,
      c.unsigned_abs-in-Tile-2.ensures.value,
    ) at c.then_some.ensures) in
    asks_answer g.S.Store {x = c.in_ok-taken-in-Tile.taken} c.in_ok-taken-in-Tile.was
    (λ w count are told p here. made ∙ clash_told c.args.item.now p c.in-Tile.zoom c.in-Tile.column c.in-Tile.row
    c.in-Tile.bytes c.in_ok-taken-in-Tile.taken c.in-Tile.is (told p here)) asked

pub returns-in-Media : goal.returns-in-Media
returns-in-Media g c =
    asks_still g.S.Store g.met.S.Store.shut_if_dirty g.met.S.Store.settled c.requires.rests
    (λ w count are p here. sym (ap (λ content. then_some (takes_place p content) (clash_of c.args.item.now))
    c.in-Media.is))

pub returns-in-Row : goal.returns-in-Row
returns-in-Row g c =
    asks_still g.S.Store g.met.S.Store.shut_if_dirty g.met.S.Store.settled c.requires.rests
    (λ w count are p here. sym (ap (λ content. then_some (takes_place p content) (clash_of c.args.item.now))
    c.in-Row.is))
