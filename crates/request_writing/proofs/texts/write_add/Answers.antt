use Rattle.std.proofs.Common.{rules, FitsSigned, w64, sym, ◌≡◌, ◌∷◌, [], ℕ, List, IfOk, OnOk, Some}
use Rattle.std.proofs.Common.{codes, map}
use Rattle.std.proofs.Common.{string_bytes, ◌+◌, ◌-◌, ◌*◌, ◌<◌, ◌≤◌, length, ◌/◌, ◌%◌}
use Rattle.std.proofs.Common.{Bool, true, false, nat_eq}
use Rattle.std.proofs.Common.{nat_lt, ◌++◌, slice_index_or, slice_set, bit_and, bit_or, Fits, w8, w32, Bor, MutBor}
use Rattle.std.proofs.lemmas.Int.{to_z-of_z}
use Rattle.std.specs.Fmt.{signed_decimal}
use Rattle.std.specs.Io.KnownBytes.{Appends}
use Rattle.hex.specs.Hex.{encode_lower}
use Rattle.csv.specs.Writing.{default_writer, row_text, text_written}
use Rattle.request_csv.specs.Requests.{header}
use Rattle.request_writing.specs.RequestTexts.{IsBetween, content_fields, list_text, records_text, request_fields}
use Rattle.sheet_types.specs.Texts.{mapping_word, mode_word, uuid_text}
use Rattle.request_writing.proofs.texts.write_add.Goals as goal

-- src/texts.rt:301:1
pub returns-in-Tile-clause-text : goal.returns-in-Tile-clause-text
returns-in-Tile-clause-text c =
    let zoom : FitsSigned w64 c.in-Tile.zoom = search rules in
    let column : FitsSigned w64 c.in-Tile.column = search rules in
    let row : FitsSigned w64 c.in-Tile.row = search rules in
    let text = simp (to_z-of_z, zoom, column, row) at c.write_tile.ensures.text in
    rw (c.in-Tile.is, sym c.as_slice.ensures) text

-- src/texts.rt:301:1
pub returns-in-Media-clause-text : goal.returns-in-Media-clause-text
returns-in-Media-clause-text c = rw (c.in-Media.is, sym c.as_str.ensures, sym c.as_slice-in-Media.ensures)
    c.write_medium.ensures.text

-- src/texts.rt:301:1
pub returns-in-Row-clause-text : goal.returns-in-Row-clause-text
returns-in-Row-clause-text c =
    let x : FitsSigned w64 c.in-Row.x = search rules in
    let y : FitsSigned w64 c.in-Row.y = search rules in
    let code : FitsSigned w64 c.in-Row.code = search rules in
    let text = simp (to_z-of_z, x, y, code) at c.write_row.ensures.text in
    rw (c.in-Row.is, sym c.as_str-in-Row.ensures) text
