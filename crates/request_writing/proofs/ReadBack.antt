-- The text of a list is read as the requests that it was written of.
use Rattle.std.proofs.Common.{◌≡◌, inl, arith, refl, ℕ, List, ◌∷◌, ◌++◌, Some, None}
use Rattle.std.specs.Prelude.{
  ℤ,
  pos,
  negsuc,
  suc,
  Bool,
  true,
  false,
  [],
  length,
  map,
  codes,
  nat_lt,
  FitsSigned,
  Option,
}
use Rattle.std.specs.Fmt.{signed_decimal}
use Rattle.std.specs.Int.{w64}
use Rattle.std.specs.List.{AllByRecursion, AllZip, list_all}
use Rattle.std.specs.Str.{IsUtf8}
use Rattle.std.proofs.lemmas.Bool.{false≢true, and_parts}
use Rattle.std.proofs.lemmas.Fmt.{IsAscii-decimal}
use Rattle.std.proofs.lemmas.Int.{ints}
use Rattle.std.proofs.lemmas.List.Elements.{All-from_recursion}
use Rattle.std.proofs.lemmas.Str.{IsUtf8-from_ascii}
use Rattle.std.proofs.lemmas.Str.Ascii.{IsAscii-cons}
use Rattle.csv.specs.Machine.{next_record}
use Rattle.csv.specs.Reading.{Reached, default_config, strip_bom}
use Rattle.csv.specs.Records.{AllText, field_at}
use Rattle.csv.specs.Writing.{default_writer, escaped, fields_text, is_blank, row_text}
use Rattle.csv.specs.declared.parser.State.TheVariants as st
use Rattle.csv.proofs.RoundTrip.{read-write-many}
use Rattle.hex.specs.Hex.{IsBytes, encode_lower}
use Rattle.hex.proofs.HexLemmas.{decode_of-encode_lower}
use Rattle.uuid.specs.Text.{lower, parsed_hyphenated}
use Rattle.uuid.proofs.TextLemmas.{hyphenated_ascii}
use Rattle.sheet_types.specs.Lines.{IsUuid}
use Rattle.sheet_types.specs.Texts.{mapping_word, mode_word, uuid_text}
use Rattle.sheet_types.specs.declared.command.Command.{Command}
use Rattle.sheet_types.specs.declared.command.Command.TheVariants.{Add, Delete, Link, Unlink, Split, Merge}
use Rattle.sheet_types.specs.declared.command.Content.{Content}
use Rattle.sheet_types.specs.declared.command.Content.TheVariants.{Tile, Media, Row}
use Rattle.sheet_types.specs.declared.command.Mapping.{Mapping}
use Rattle.sheet_types.specs.declared.command.Mapping.TheVariants.{TilesMedia, RowsMedia, RowsTiles}
use Rattle.sheet_types.specs.declared.command.Mode.{Mode}
use Rattle.sheet_types.specs.declared.command.Mode.TheVariants.{Strict, Follow}
use Rattle.sheet_types.specs.declared.command.Request.{Request}
use Rattle.sheet_types.proofs.Digits.{IsAscii-from_test, IsUtf8-encode_lower}
use Rattle.sheet_types.proofs.UuidTexts.{reads_own}
use Rattle.request_csv.specs.Requests.{AreEmpty, IsCommand, IsContent, IsHexAt, header}
use Rattle.request_csv.specs.RequestLists.{Asks}
use Rattle.request_writing.specs.ReadBack.{HasCommandTypes, HasContentTypes, HasRequestTypes, WrittenIsRead}
use Rattle.request_writing.specs.RequestTexts.{command_fields, content_fields, list_text, records_text, request_fields}

-- ---- texts

plain : (text : List ℕ) → list_all (λ c. nat_lt c 128) text ≡ true → IsUtf8 text
plain text h = IsUtf8-from_ascii text (IsAscii-from_test text h)

no_text : IsUtf8 []
no_text = plain [] refl

uuid_is_text : (id : List ℕ) → IsUtf8 (uuid_text id)
uuid_is_text id = IsUtf8-from_ascii (uuid_text id) (hyphenated_ascii lower id (inl refl))

number_is_text : (z : ℤ) → FitsSigned w64 z → IsUtf8 (signed_decimal z)
number_is_text (pos n) fits = IsUtf8-from_ascii (signed_decimal (pos n)) (IsAscii-decimal n (omega (arith, ints, fits)))
number_is_text (negsuc n) fits = IsUtf8-from_ascii (signed_decimal (negsuc n))
    (IsAscii-cons 45 _ (omega arith) (IsAscii-decimal (suc n) (omega (arith, ints, fits))))

mapping_is_text : (m : Mapping) → IsUtf8 (mapping_word m)
mapping_is_text TilesMedia = plain (mapping_word TilesMedia) refl
mapping_is_text RowsMedia = plain (mapping_word RowsMedia) refl
mapping_is_text RowsTiles = plain (mapping_word RowsTiles) refl

mode_is_text : (m : Mode) → IsUtf8 (mode_word m)
mode_is_text Strict = plain (mode_word Strict) refl
mode_is_text Follow = plain (mode_word Follow) refl

-- the text of an identity is read as it
reads_uuid : (id : List ℕ) → IsUuid id → parsed_hyphenated (uuid_text id) ≡ Some id
reads_uuid id h = reads_own id (uuid_text id) h refl

-- whether a field is empty
is_empty : Option (List ℕ) → Bool
is_empty (Some []) = true
is_empty (Some (x ∷ xs)) = false
is_empty None = false

empty_is : (field : Option (List ℕ)) → is_empty field ≡ true → field ≡ Some []
unfolding is_empty
empty_is (Some []) h = refl
empty_is (Some (x ∷ xs)) h = absurd (false≢true h)
empty_is None h = absurd (false≢true h)

module _ (fields : List (List ℕ)) where
  each_empty : (columns : List ℕ) → list_all (λ c. is_empty (field_at fields c)) columns ≡ true
      → AllByRecursion (λ c. field_at fields c ≡ Some []) columns
  each_empty [] h = tt
  each_empty (c ∷ cs) h =
      let parts = and_parts (is_empty (field_at fields c)) (list_all (λ d. is_empty (field_at fields d)) cs) h in
      (empty_is (field_at fields c) parts.0, each_empty cs parts.1)

  none : (columns : List ℕ) → list_all (λ c. is_empty (field_at fields c)) columns ≡ true
      → AreEmpty fields columns
  none columns h = All-from_recursion (λ c. field_at fields c ≡ Some []) columns (each_empty columns h)

-- ---- each field is text

record AreTexts (fields : List (List ℕ)) : Type 0 where
  each : AllText fields

no_more : AreTexts []
unfolding AllText
no_more = record { each = tt }

text : {field : List ℕ} {fields : List (List ℕ)} → IsUtf8 field → AreTexts fields
    → AreTexts (field ∷ fields)
unfolding AllText
text h more = record { each = (h, more.each) }

blank : {fields : List (List ℕ)} → AreTexts fields → AreTexts ([] ∷ fields)
blank more = text no_text more

three_blank : {fields : List (List ℕ)} → AreTexts fields → AreTexts ([] ∷ [] ∷ [] ∷ fields)
three_blank more = blank (blank (blank more))

four_blank : {fields : List (List ℕ)} → AreTexts fields → AreTexts ([] ∷ [] ∷ [] ∷ [] ∷ fields)
four_blank more = blank (three_blank more)

content_texts : (c : Content) → HasContentTypes c → AreTexts (content_fields c)
content_texts (Tile zoom column row bytes) is =
    text (plain (codes "tile") refl)
    (text (number_is_text zoom is.0) (text (number_is_text column is.1) (text (number_is_text row is.2)
    (four_blank (three_blank (text (IsUtf8-encode_lower bytes) no_more))))))
content_texts (Media content_type bytes) is =
    text (plain (codes "media") refl)
    (blank (four_blank (four_blank (text is.0 (text (IsUtf8-encode_lower bytes) no_more)))))
content_texts (Row x y code label) is =
    text (plain (codes "row") refl) (blank (four_blank (text (number_is_text x is.0) (text (number_is_text y is.1)
    (text (number_is_text code is.2) (blank (text is.3 (blank no_more))))))))

command_texts : (c : Command) → HasCommandTypes c → AreTexts (command_fields c)
command_texts (Add p identity content) is =
    text (plain (codes "add") refl)
    (text (uuid_is_text p) (text (uuid_is_text identity) (blank (content_texts content is.2))))
command_texts (Delete p identity) is =
    text (plain (codes "delete") refl) (text (uuid_is_text p) (text (uuid_is_text identity)
    (blank (four_blank (four_blank (four_blank no_more))))))
command_texts (Link p mapping base other) is =
    text (plain (codes "link") refl) (text (uuid_is_text p) (text (uuid_is_text base) (text (uuid_is_text other)
    (text (mapping_is_text mapping) (three_blank (four_blank (four_blank no_more)))))))
command_texts (Unlink p mapping base other) is =
    text (plain (codes "unlink") refl) (text (uuid_is_text p) (text (uuid_is_text base) (text (uuid_is_text other)
    (text (mapping_is_text mapping) (three_blank (four_blank (four_blank no_more)))))))
command_texts (Split p child mode rect) is =
    text (plain (codes "split") refl) (text (uuid_is_text p) (blank (text (uuid_is_text child) (text (mode_is_text mode)
    (text (number_is_text rect.zoom is.2.0)
    (text (number_is_text rect.column is.2.1) (text (number_is_text rect.row is.2.3)
    (text (number_is_text rect.last_column is.2.2) (text (number_is_text rect.last_row is.2.4)
    (three_blank (three_blank no_more)))))))))))
command_texts (Merge child into ticket) is =
    text (plain (codes "merge") refl) (text (uuid_is_text child) (blank (text (uuid_is_text into)
    (blank (four_blank (four_blank (text (number_is_text ticket is.2) (blank (blank no_more)))))))))

-- ---- one request

is_hex : (fields : List (List ℕ)) (bytes : List ℕ) → IsBytes bytes
    → field_at fields 17 ≡ Some (encode_lower bytes)
    → IsHexAt fields 17 bytes
is_hex fields bytes is there =
    record { text = encode_lower bytes; there = there; digits = decode_of-encode_lower bytes is }

module _ (id at : List ℕ) (id_is : IsUuid id) (at_is : IsUtf8 at) where
  abbrev fields_for : Command → List (List ℕ)
  fields_for c = uuid_text id ∷ at ∷ command_fields c

  abbrev request : Command → Request
  request c = record { id = id; at = at; command = c }

  has_content : (p identity : List ℕ) (c : Content) → HasContentTypes c
      → IsContent (fields_for (Add p identity c)) c
  unfolding field_at is_empty
  has_content p identity (Tile zoom column row bytes) is =
      let fields = fields_for (Add p identity (Tile zoom column row bytes)) in (
        refl,
        (
          (is.0, refl),
          (is.1, refl),
          (is.2, refl),
          is_hex fields bytes is.3 refl,
          none fields (10 ∷ 11 ∷ 12 ∷ 13 ∷ 14 ∷ 16 ∷ []) refl,
        ),
      )
  has_content p identity (Media content_type bytes) is =
      let fields = fields_for (Add p identity (Media content_type bytes)) in (
        refl,
        (
          refl,
          is_hex fields bytes is.1 refl,
          none fields
              (7 ∷ 8 ∷ 9 ∷ 10 ∷ 11 ∷ 12 ∷ 13 ∷ 14 ∷ []) refl,
        ),
      )
  has_content p identity (Row x y code label) is =
      let fields = fields_for (Add p identity (Row x y code label)) in (
        refl,
        (
          (is.0, refl),
          (is.1, refl),
          (is.2, refl),
          refl,
          none fields (7 ∷ 8 ∷ 9 ∷ 10 ∷ 11 ∷ 17 ∷ [])
              refl,
        ),
      )

  added_blank : (p identity : List ℕ) (c : Content) → AreEmpty (fields_for (Add p identity c)) (5 ∷ 15 ∷ [])
  unfolding field_at is_empty
  added_blank p identity (Tile zoom column row bytes) =
      none (fields_for (Add p identity (Tile zoom column row bytes))) (5 ∷ 15 ∷ []) refl
  added_blank p identity (Media content_type bytes) =
      none (fields_for (Add p identity (Media content_type bytes))) (5 ∷ 15 ∷ []) refl
  added_blank p identity (Row x y code label) =
      none (fields_for (Add p identity (Row x y code label))) (5 ∷ 15 ∷ []) refl

  is_command : (c : Command) → HasCommandTypes c → IsCommand (fields_for c) c
  unfolding field_at is_empty
  is_command (Add p identity content) is = (
    refl,
    (
      reads_uuid p is.0,
      reads_uuid identity is.1,
      has_content p identity content is.2,
      added_blank p identity content,
    ),
  )
  is_command (Delete p identity) is =
      let empty = none (fields_for (Delete p identity))
      (5 ∷ 6 ∷ 7 ∷ 8 ∷ 9 ∷ 10 ∷ 11 ∷ 12 ∷ 13 ∷ 14 ∷ 15 ∷ 16 ∷ 17 ∷ []) refl in
      (refl, (reads_uuid p is.0, reads_uuid identity is.1, empty))
  is_command (Link p mapping base other) is =
      let empty = none (fields_for (Link p mapping base other))
      (7 ∷ 8 ∷ 9 ∷ 10 ∷ 11 ∷ 12 ∷ 13 ∷ 14 ∷ 15 ∷ 16 ∷ 17 ∷ []) refl in
      (refl, (reads_uuid p is.0, refl, reads_uuid base is.1, reads_uuid other is.2, empty))
  is_command (Unlink p mapping base other) is =
      let empty = none (fields_for (Unlink p mapping base other))
      (7 ∷ 8 ∷ 9 ∷ 10 ∷ 11 ∷ 12 ∷ 13 ∷ 14 ∷ 15 ∷ 16 ∷ 17 ∷ []) refl in
      (refl, (reads_uuid p is.0, refl, reads_uuid base is.1, reads_uuid other is.2, empty))
  is_command (Split p child mode rect) is =
      let r = is.2 in
      let empty = none (fields_for (Split p child mode rect)) (4 ∷ 12 ∷ 13 ∷ 14 ∷ 15 ∷ 16 ∷ 17 ∷ [])
      refl in (
        refl,
        (
          reads_uuid p is.0,
          reads_uuid child is.1,
          refl,
          ((r.0, refl), (r.1, refl), (r.2, refl), (r.3, refl), (r.4, refl)),
          empty,
        ),
      )
  is_command (Merge child into ticket) is =
      let empty = none (fields_for (Merge child into ticket))
      (4 ∷ 6 ∷ 7 ∷ 8 ∷ 9 ∷ 10 ∷ 11 ∷ 12 ∷ 13 ∷ 14 ∷ 16 ∷ 17 ∷ []) refl in
      (refl, (reads_uuid child is.0, reads_uuid into is.1, (is.2, refl), empty))

  columns_of : (c : Command) → length (fields_for c) ≡ 18
  columns_of (Add p identity (Tile zoom column row bytes)) = refl
  columns_of (Add p identity (Media content_type bytes)) = refl
  columns_of (Add p identity (Row x y code label)) = refl
  columns_of (Delete p identity) = refl
  columns_of (Link p mapping base other) = refl
  columns_of (Unlink p mapping base other) = refl
  columns_of (Split p child mode rect) = refl
  columns_of (Merge child into ticket) = refl

  asks : (c : Command) → HasCommandTypes c → Asks (fields_for c) (request c)
  unfolding field_at
  asks c is = (
    ((text (uuid_is_text id) (text at_is (command_texts c is))).each, columns_of c),
    record { columns = columns_of c; id = reads_uuid id id_is; at = refl; command = is_command c is },
  )

all_ask : (requests : List Request) → AllByRecursion HasRequestTypes requests
    → AllZip Asks (map request_fields requests) requests
all_ask [] all = tt
all_ask (r ∷ rs) all = (asks r.id r.at all.0.0 all.0.1 r.command all.0.2, all_ask rs all.1)

-- ---- the text

reached : (rs : List Request) → Reached default_config st.StartRecord (records_text rs) (map request_fields rs)
    st.StartRecord []
unfolding Reached
reached [] = (refl, refl)
reached (r ∷ rs) = (
  (request_fields r, st.StartRecord, records_text rs),
  read-write-many (uuid_text r.id) r.at (command_fields r.command) (records_text rs),
  refl,
  reached rs,
)

no_mark : (rest : List ℕ) → strip_bom (row_text default_writer header ++ rest) ≡ row_text default_writer header
    ++ rest
unfolding strip_bom escaped fields_text is_blank
no_mark rest = refl

none_left : next_record default_config st.StartRecord [] [] [] ≡ None
unfolding next_record
none_left = refl

all_reached : (rs : List Request)
    → Reached default_config st.StartRecord (list_text rs) (header ∷ map request_fields rs) st.StartRecord []
unfolding Reached
all_reached rs = (
  (header, st.StartRecord, records_text rs),
  read-write-many (codes "request") (codes "at") _ (records_text rs),
  refl,
  reached rs,
)

pub written_is_read : WrittenIsRead
written_is_read requests all = (
  header ∷ map request_fields requests,
  (st.StartRecord, [], rw (no_mark (records_text requests)) (all_reached requests), none_left),
  (refl, all_ask requests all),
)
