use Rattle.std.proofs.Common.{rules, to_z-of_z, FitsSigned, w64}
use Rattle.sheet_types.specs.declared.command.Content.TheVariants.{Tile, Media, Row}
use Rattle.identity_register.proofs.Numbers.{content_put}
use Rattle.identity_register.proofs.additions.put_content.Goals as goal

pub returns-in-Tile-clause-steps : goal.returns-in-Tile-clause-steps
returns-in-Tile-clause-steps g c =
    let zoom : FitsSigned w64 c.in-Tile.zoom = search rules in
    let column : FitsSigned w64 c.in-Tile.column = search rules in
    let row : FitsSigned w64 c.in-Tile.row = search rules in
    content_put c.args.number c.args.content.now (Tile c.in-Tile.zoom c.in-Tile.column c.in-Tile.row c.in-Tile.bytes)
    c.in-Tile.is (simp (to_z-of_z, c.ranges.number, zoom, column, row, c.as_slice.ensures) at
    c.insert_tile.ensures.wrote) c.insert_tile.ensures.survives

pub returns-in-Media-clause-steps : goal.returns-in-Media-clause-steps
returns-in-Media-clause-steps g c =
    content_put c.args.number c.args.content.now (Media c.in-Media.content_type c.in-Media.bytes) c.in-Media.is
    (simp (to_z-of_z, c.ranges.number, c.as_slice-in-Media.ensures, c.as_str.ensures) at
    c.insert_medium.ensures.wrote) c.insert_medium.ensures.survives

pub returns-in-Row-clause-steps : goal.returns-in-Row-clause-steps
returns-in-Row-clause-steps g c =
    let x : FitsSigned w64 c.in-Row.x = search rules in
    let y : FitsSigned w64 c.in-Row.y = search rules in
    let code : FitsSigned w64 c.in-Row.code = search rules in
    content_put c.args.number c.args.content.now (Row c.in-Row.x c.in-Row.y c.in-Row.code c.in-Row.label) c.in-Row.is
    (simp (to_z-of_z, c.ranges.number, x, y, code, c.as_str-in-Row.ensures) at c.insert_attribute.ensures.wrote)
    c.insert_attribute.ensures.survives
