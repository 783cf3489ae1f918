use Rattle.std.proofs.Common.{rules, sym, ◌≡◌, ◌∷◌, [], ℕ, List, IfOk, OnOk, Some, codes, map}
use Rattle.std.proofs.Common.{string_bytes, ◌+◌, ◌-◌}
use Rattle.std.proofs.Common.{◌*◌, ◌<◌, ◌≤◌, length, ◌/◌, ◌%◌, Bool, true, false, nat_eq}
use Rattle.std.proofs.Common.{nat_lt, ◌++◌}
use Rattle.std.proofs.Common.{slice_index_or, slice_set, bit_and, bit_or, Fits, w8, w32, w64, Bor, MutBor}
use Rattle.std.specs.Fmt.{signed_decimal}
use Rattle.std.specs.Io.KnownBytes.{Appends}
use Rattle.hex.specs.Hex.{encode_lower}
use Rattle.csv.specs.Writing.{default_writer, row_text, text_written}
use Rattle.request_csv.specs.Requests.{header}
use Rattle.request_writing.specs.RequestTexts.{IsBetween, content_fields, list_text, records_text, request_fields}
use Rattle.sheet_types.specs.Texts.{mapping_word, mode_word, uuid_text}
use Rattle.request_writing.proofs.texts.write_split.Goals as goal

-- src/texts.rt:233:1
pub returns-clause-text : goal.returns-clause-text
returns-clause-text c =
    let zoom : string_bytes c.in_ok-zoom.zoom ≡ signed_decimal c.args.rect.now.zoom = search rules in
    let column : string_bytes c.in_ok-column.column ≡ signed_decimal c.args.rect.now.column = search rules in
    let row : string_bytes c.in_ok-row.row ≡ signed_decimal c.args.rect.now.row = search rules in
    let last_column : string_bytes c.in_ok-last_column.last_column ≡ signed_decimal c.args.rect.now.last_column =
    search rules in
    let last_row : string_bytes c.in_ok-last_row.last_row ≡ signed_decimal c.args.rect.now.last_row = search rules in
    rw (
      sym c.as_bytes-id.ensures.value,
      sym c.as_bytes-at.ensures.value,
      sym c.in_ok-package.ensures.one,
      sym
          c.in_ok-package.ensures.two,
      sym c.in_ok-kind.ensures.ok,
      sym zoom,
      sym column,
      sym row,
      sym last_column,
      sym
          last_row,
      sym c.as_bytes-package.ensures.value,
      sym c.as_bytes-child.ensures.value,
      sym
          c.as_bytes-kind.ensures.value,
      sym c.as_bytes-zoom.ensures.value,
      sym c.as_bytes-column.ensures.value,
      sym
          c.as_bytes-row.ensures.value,
      sym c.as_bytes-last_column.ensures.value,
      sym c.as_bytes-last_row.ensures.value,
    )
    c.write_record.ensures.text
