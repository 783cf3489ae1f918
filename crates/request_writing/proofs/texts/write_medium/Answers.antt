use Rattle.std.proofs.Common.{rules, sym, ◌≡◌, ◌∷◌, [], ℕ, List, IfOk, OnOk, Some, codes, map}
use Rattle.std.proofs.Common.{string_bytes, ◌+◌, ◌-◌}
use Rattle.std.proofs.Common.{◌*◌, ◌<◌, ◌≤◌, length, ◌/◌, ◌%◌, Bool, true, false, nat_eq}
use Rattle.std.proofs.Common.{nat_lt, ◌++◌}
use Rattle.std.proofs.Common.{slice_index_or, slice_set, bit_and, bit_or, Fits, w8, w32, w64, Bor, MutBor}
use Rattle.std.specs.Fmt.{signed_decimal}
use Rattle.std.specs.Io.KnownBytes.{Appends}
use Rattle.hex.specs.Hex.{encode_lower}
use Rattle.csv.specs.Writing.{default_writer, row_text, text_written}
use Rattle.request_csv.specs.Requests.{header}
use Rattle.request_writing.specs.RequestTexts.{IsBetween, content_fields, list_text, records_text, request_fields}
use Rattle.sheet_types.specs.Texts.{mapping_word, mode_word, uuid_text}
use Rattle.request_writing.proofs.texts.write_medium.Goals as goal

-- src/texts.rt:121:1
pub returns-clause-text : goal.returns-clause-text
returns-clause-text c = rw (
  sym c.as_bytes-id.ensures.value,
  sym c.as_bytes-at.ensures.value,
  sym
      c.in_ok-package.ensures.one,
  sym c.in_ok-package.ensures.two,
  sym c.in_ok-data.ensures,
  sym
      c.as_bytes-package.ensures.value,
  sym c.as_bytes-identity.ensures.value,
  sym c.as_bytes-text.ensures.value,
  sym
      c.as_bytes-data.ensures.value,
) c.write_record.ensures.text
