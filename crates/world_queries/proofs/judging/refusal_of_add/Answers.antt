-- What each kind of content is judged by.
use Rattle.std.proofs.Common.{◌≡◌, ◌∙◌, ap, sym, rules}
use Rattle.std.proofs.lemmas.Int.{to_z-of_z}
use mir.Syntax.{w64}
use mir.Val.{SFits}
use Rattle.sheet_types.specs.Matrix.{first_row}
use Rattle.sheet_types.specs.declared.command.Content.TheVariants.{Row}
use Rattle.world_members.specs.Reasons.{tile_reasons, content_reasons}
use Rattle.world_members.proofs.Seeing.{judges_so, judges_still}
use Rattle.world_members.proofs.FirstRows.{on_frame}
use Rattle.world_queries.proofs.judging.refusal_of_add.Goals as goal

pub returns-in-Tile : goal.returns-in-Tile
returns-in-Tile g c =
    let zoom : SFits w64 c.in-Tile.zoom = search rules in
    let column : SFits w64 c.in-Tile.column = search rules in
    let row : SFits w64 c.in-Tile.row = search rules in
    judges_so (λ f p found. f ≡ c.args.frame.now → found ≡ first_row
    (tile_reasons f p c.in-Tile.zoom c.in-Tile.column c.in-Tile.row)) c.refusal_of_tile.result
    (λ x f p so same. so same ∙ ap (λ y. first_row (content_reasons f p y)) (sym c.in-Tile.is))
    (simp (to_z-of_z, zoom, column, row) at c.refusal_of_tile.ensures)

pub returns-in-Media : goal.returns-in-Media
returns-in-Media g c =
    judges_still g.S.Store g.met.S.Store.shut_if_dirty g.met.S.Store.settled c.args.conn.now c.requires.rests
    (λ f p same. ap (λ y. first_row (content_reasons f p y)) (sym c.in-Media.is))

pub returns-in-Row : goal.returns-in-Row
returns-in-Row g c =
    let x : SFits w64 c.in-Row.x = search rules in
    let y : SFits w64 c.in-Row.y = search rules in
    let inside = simp (to_z-of_z, x, y) at c.in_frame.ensures in
    judges_still g.S.Store g.met.S.Store.shut_if_dirty g.met.S.Store.settled c.args.conn.now c.requires.rests
    (λ f p same.
    let found : c.then_some.result ≡ first_row (content_reasons f p
    (Row c.in-Row.x c.in-Row.y c.in-Row.code c.in-Row.label)) =
    c.then_some.ensures ∙ on_frame f c.args.frame.now c.in-Row.x c.in-Row.y c.in_frame.result inside same in
    found ∙ ap (λ y. first_row (content_reasons f p y)) (sym c.in-Row.is))
