use Rattle.std.proofs.Common.{rules, sym, ◌≡◌, ◌∷◌, [], ℕ, List, IfOk, OnOk, Some, codes, map}
use Rattle.std.proofs.Common.{string_bytes, ◌+◌, ◌-◌}
use Rattle.std.proofs.Common.{◌*◌, ◌<◌, ◌≤◌, length, ◌/◌, ◌%◌, Bool, true, false, nat_eq}
use Rattle.std.proofs.Common.{nat_lt, ◌++◌}
use Rattle.std.proofs.Common.{slice_index_or, slice_set, bit_and, bit_or, Fits, w8, w32, w64, Bor, MutBor, ℤ, pos}
use Rattle.std.proofs.Common.{◌+ℤ◌, ◌-ℤ◌, ◌*ℤ◌, ◌≤ℤ◌, ◌<ℤ◌, FitsSigned, to_z, of_z}
use Rattle.std.proofs.lemmas.Int.{to_z-of_z}
use Rattle.std.specs.Fmt.{signed_decimal}
use Rattle.std.specs.Io.KnownBytes.{Appends}
use Rattle.hex.specs.Hex.{encode_lower}
use Rattle.csv.specs.Writing.{default_writer, row_text, text_written}
use Rattle.request_csv.specs.Requests.{header}
use Rattle.request_writing.specs.RequestTexts.{IsBetween, content_fields, list_text, records_text, request_fields}
use Rattle.sheet_types.specs.Texts.{mapping_word, mode_word, uuid_text}
use Rattle.request_writing.proofs.texts.write_request.Goals as goal

-- src/texts.rt:339:1
pub returns-in-Split-clause-text : goal.returns-in-Split-clause-text
returns-in-Split-clause-text c = rw (c.in-Split.is, sym c.in_ok-front.ensures.id, sym c.in_ok-front.ensures.at)
    c.write_split.ensures.text

-- src/texts.rt:331:1
pub returns-clause-text : goal.returns-clause-text
returns-clause-text c =
    let ticket : FitsSigned w64 c.in-Merge.ticket = search rules in
    let text = simp (to_z-of_z, ticket) at c.write_merge.ensures.text in
    rw (c.in-Merge.is, sym c.in_ok-front.ensures.id, sym c.in_ok-front.ensures.at) text
