use Rattle.std.proofs.Common.{rules, sym, ◌≡◌, ◌∷◌, [], ℕ, List, IfOk, OnOk, Some, codes, map}
use Rattle.std.proofs.Common.{string_bytes, ◌+◌, ◌-◌}
use Rattle.std.proofs.Common.{◌*◌, ◌<◌, ◌≤◌, length, ◌/◌, ◌%◌, Bool, true, false, nat_eq}
use Rattle.std.proofs.Common.{nat_lt, ◌++◌}
use Rattle.std.proofs.Common.{slice_index_or, slice_set, bit_and, bit_or, Fits, w8, w32, w64, Bor, MutBor, ℤ, pos}
use Rattle.std.proofs.Common.{◌+ℤ◌, ◌-ℤ◌, ◌*ℤ◌, ◌≤ℤ◌, ◌<ℤ◌, FitsSigned, to_z, of_z}
use Rattle.std.specs.Fmt.{signed_decimal}
use Rattle.std.specs.Io.KnownBytes.{Appends}
use Rattle.hex.specs.Hex.{encode_lower}
use Rattle.csv.specs.Writing.{default_writer, row_text, text_written}
use Rattle.request_csv.specs.Requests.{header}
use Rattle.request_writing.specs.RequestTexts.{IsBetween, content_fields, list_text, records_text, request_fields}
use Rattle.sheet_types.specs.Texts.{mapping_word, mode_word, uuid_text}
use Rattle.request_writing.proofs.texts.write_merge.Goals as goal

-- src/texts.rt:274:1
pub returns-clause-text : goal.returns-clause-text
returns-clause-text c =
    let ticket : string_bytes c.in_ok-ticket.ticket ≡ signed_decimal c.args.ticket = search rules in
    rw (
      sym c.as_bytes-id.ensures.value,
      sym c.as_bytes-at.ensures.value,
      sym c.in_ok-child.ensures.one,
      sym
          c.in_ok-child.ensures.two,
      sym ticket,
      sym c.as_bytes-child.ensures.value,
      sym c.as_bytes-into.ensures.value,
      sym c.as_bytes-ticket.ensures.value,
    ) c.write_record.ensures.text
