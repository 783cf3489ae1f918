-- A line read back is the entry that wrote it, and no other text is read so.
use Rattle.std.specs.Prelude.{◌≡◌, ℕ, zero, suc, ◌^◌, ◌<◌, ◌==◌, true, false, not, ◌&&◌}
use Rattle.std.specs.Prelude.{nat_lt, List, [], ◌∷◌, refl, bytes_eq, Option, Some, None, option_map, unwrap_or}
use Rattle.std.specs.Prelude.{length, slice_index, ℤ, pos, negsuc, neg_ℤ, unsigned_abs, codes, decimal}
use Rattle.std.specs.Prelude.{if◌then◌else◌}
use Rattle.std.proofs.Common.{sym, ap, subst, ◌∙◌, arith, inl}
use Rattle.std.proofs.lemmas.Bool.{and_parts, and_from, ltb-true, eqb-true}
use Rattle.std.proofs.lemmas.Bool.Decides.{nat_tests}
use Rattle.std.specs.Prelude.{All}
use Rattle.std.proofs.lemmas.List.Elements.{All-from_recursion, All-from_get_or, recursion_from_All}
use Rattle.std.proofs.lemmas.List.Splits.{slice_split_at, slice_split_none}
use Rattle.std.proofs.lemmas.Slice.Eq.{bytes_eq-Decides}
use Rattle.std.proofs.lemmas.Fmt.{decimal_is_IsNumeral}
use Rattle.std.specs.List.{slice_split, list_all, AllByRecursion}
use Rattle.std.specs.Option.{option_and_then}
use Rattle.std.specs.Bool.{then_some}
use Rattle.std.specs.Fmt.{signed_decimal}
use Rattle.std.specs.Result.{result_unwrap_or}
use Rattle.std.specs.Str.Parse.{IsNumeral, digits_value}
use Rattle.hex.specs.Hex.{encode_with, encode_lower, lower_digits, IsBytes}
use Rattle.hex.proofs.HexLemmas.{decode_of-encode_lower}
use Rattle.uuid.specs.Text.{lower, hex_digit, nibble, digit_place, is_hyphen_place}
use Rattle.uuid.proofs.TextLemmas.{by_index_length, by_index_at, nibble_small}
use Rattle.uuid.proofs.RoundTrips.{parses_hyphenated_text}
use Rattle.sheet_types.specs.Texts.{Entry, Adds, Deletes, Links, Unlinks, Splits, Merges, entry_line, spaced}
use Rattle.sheet_types.specs.Texts.{uuid_text, kind_word, mapping_word, mode_word}
use Rattle.sheet_types.specs.Lines.{is_bytes, is_uuid, is_number, is_fit_entry, IsFitEntry, kind_in, mapping_in}
use Rattle.sheet_types.specs.Lines.{mode_in, uuid_in, number_in, digest_in, entry_in, entry_from}
use Rattle.sheet_types.specs.declared.command.Mapping.{Mapping}
use Rattle.sheet_types.specs.declared.command.Mapping.TheVariants.{TilesMedia, RowsMedia, RowsTiles}
use Rattle.sheet_types.specs.declared.command.Mode.{Mode}
use Rattle.sheet_types.specs.declared.command.Mode.TheVariants.{Strict, Follow}
use Rattle.sheet_types.specs.declared.receipt.MovedKind.{MovedKind}
use Rattle.sheet_types.specs.declared.receipt.MovedKind.TheVariants.{TileItem, MediaItem, RowItem, TilesMediaLink}
use Rattle.sheet_types.specs.declared.receipt.MovedKind.TheVariants.{RowsMediaLink, RowsTilesLink}
use Rattle.sheet_types.proofs.Basics.{bytes_eq_itself, None≢Some, not_true}
use Rattle.sheet_types.proofs.Commas.{Lacks, decimal_lacks, signed_lacks}

-- ---- parts with no space in them

-- such parts are found again in their line
pub split_spaced : (x : List ℕ) (xs : List (List ℕ)) → Lacks 32 x → AllByRecursion (Lacks 32) xs
    → slice_split (λ c. c == 32) (spaced (x ∷ xs)) ≡ x ∷ xs
split_spaced x [] h hs = slice_split_none (λ c. c == 32) x (All-from_recursion (λ c. (c == 32) ≡ false) x h)
split_spaced x (y ∷ ys) h hs =
    slice_split_at (λ c. c == 32) x 32 (spaced (y ∷ ys)) (All-from_recursion (λ c. (c == 32) ≡ false) x h) refl
    ∙ ap (λ zs. x ∷ zs) (split_spaced y ys hs.0 hs.1)

-- a digit of sixteen is no space
not_space : (d : ℕ) → d < 16 → (hex_digit lower d == 32) ≡ false
not_space d small = grind (arith, nat_tests)

-- the text of a UUID has no space
pub uuid_lacks : (id : List ℕ) → Lacks 32 (uuid_text id)
uuid_lacks id = recursion_from_All _ (uuid_text id) (All-from_get_or (λ c. (c == 32) ≡ false) (uuid_text id) 0
    (λ k lt.
    let within : k < 36 = rw (by_index_length 36 (λ j. if is_hyphen_place j then 45 else hex_digit lower
    (nibble id (digit_place j)))) at lt in
    ap (λ c. c == 32) (by_index_at 36 (λ j. if is_hyphen_place j then 45 else hex_digit lower
    (nibble id (digit_place j))) k 0 within)
    ∙ elim (is_hyphen_place k) as (λ v. ((if v then 45 else hex_digit lower (nibble id (digit_place k))) == 32)
    ≡ false) [
      | true ↦ refl
      | false ↦ not_space (nibble id (digit_place k)) (nibble_small id (digit_place k))
    ]))

-- a number that is not below 0
pub number_small : (n : ℕ) → is_number (pos n) ≡ true → n < 2 ^ 64
number_small n h = grind (arith, nat_tests)

-- a number below 0
pub number_small_below : (n : ℕ) → is_number (negsuc n) ≡ true → suc n < 2 ^ 64
number_small_below n h = grind (arith, nat_tests)

-- the text of a number has no space
pub number_lacks : (z : ℤ) → Lacks 32 (signed_decimal z)
number_lacks z = signed_lacks 32 z (omega arith)

-- what is taken from a text that lacks a byte is not that byte
slice_lacks : (c : ℕ) (t : List ℕ) → (0 == c) ≡ false → Lacks c t → (k : ℕ)
    → (slice_index t k == c) ≡ false
slice_lacks c [] some h k = some
slice_lacks c (x ∷ t) some h zero = h.0
slice_lacks c (x ∷ t) some h (suc k) = slice_lacks c t some h.1 k

-- a text that is written out
pub lacks_by_test : (xs : List ℕ) → list_all (λ c. not (c == 32)) xs ≡ true → Lacks 32 xs
lacks_by_test [] h = tt
lacks_by_test (c ∷ xs) h = let parts : (not (c == 32) ≡ true) × (list_all (λ x. not (x == 32)) xs ≡ true) =
    and_parts (not (c == 32)) (list_all (λ x. not (x == 32)) xs) h in
    (not_true (c == 32) parts.0, lacks_by_test xs parts.1)

-- the text of a digest has no space
pub hex_lacks : (bytes : List ℕ) → Lacks 32 (encode_lower bytes)
unfolding encode_with
hex_lacks [] = tt
hex_lacks (b ∷ bytes) = (
  slice_lacks 32 lower_digits refl (lacks_by_test lower_digits refl) _,
  (slice_lacks 32 lower_digits refl (lacks_by_test lower_digits refl) _, hex_lacks bytes),
)

-- the word of a kind has no space
pub kind_lacks : (kind : MovedKind) → Lacks 32 (kind_word kind)
kind_lacks TileItem = lacks_by_test (kind_word TileItem) refl
kind_lacks MediaItem = lacks_by_test (kind_word MediaItem) refl
kind_lacks RowItem = lacks_by_test (kind_word RowItem) refl
kind_lacks TilesMediaLink = lacks_by_test (kind_word TilesMediaLink) refl
kind_lacks RowsMediaLink = lacks_by_test (kind_word RowsMediaLink) refl
kind_lacks RowsTilesLink = lacks_by_test (kind_word RowsTilesLink) refl

-- the word of a mapping has no space
pub mapping_lacks : (mapping : Mapping) → Lacks 32 (mapping_word mapping)
mapping_lacks TilesMedia = lacks_by_test (mapping_word TilesMedia) refl
mapping_lacks RowsMedia = lacks_by_test (mapping_word RowsMedia) refl
mapping_lacks RowsTiles = lacks_by_test (mapping_word RowsTiles) refl

-- the word of a mode has no space
pub mode_lacks : (mode : Mode) → Lacks 32 (mode_word mode)
mode_lacks Strict = lacks_by_test (mode_word Strict) refl
mode_lacks Follow = lacks_by_test (mode_word Follow) refl

-- ---- each part is read back

-- a kind
kind_back : (kind : MovedKind) → kind_in (kind_word kind) ≡ Some kind
kind_back TileItem = refl
kind_back MediaItem = refl
kind_back RowItem = refl
kind_back TilesMediaLink = refl
kind_back RowsMediaLink = refl
kind_back RowsTilesLink = refl

-- a mapping
pub mapping_back : (mapping : Mapping) → mapping_in (mapping_word mapping) ≡ Some mapping
mapping_back TilesMedia = refl
mapping_back RowsMedia = refl
mapping_back RowsTiles = refl

-- a mode
mode_back : (mode : Mode) → mode_in (mode_word mode) ≡ Some mode
mode_back Strict = refl
mode_back Follow = refl

-- a byte is below 256
pub small_bytes : (bytes : List ℕ) → list_all (λ b. nat_lt b 256) bytes ≡ true
    → AllByRecursion (λ b. b < 256) bytes
small_bytes [] h = tt
small_bytes (b ∷ bytes) h = let parts : (nat_lt b 256 ≡ true) × (list_all (λ x. nat_lt x 256) bytes ≡ true) =
    and_parts (nat_lt b 256) (list_all (λ x. nat_lt x 256) bytes) h in
    (ltb-true b 256 parts.0, small_bytes bytes parts.1)

-- by places
pub small_at : (bytes : List ℕ) → AllByRecursion (λ b. b < 256) bytes → IsBytes bytes
small_at [] h i = omega arith
small_at (b ∷ bytes) h zero = h.0
small_at (b ∷ bytes) h (suc i) = small_at bytes h.1 i

-- a UUID has 16 bytes
pub uuid_length : (id : List ℕ) → is_uuid id ≡ true → length id ≡ 16
uuid_length id h = eqb-true (length id) 16 (and_parts (length id == 16) (list_all (λ b. nat_lt b 256) id) h).0

pub uuid_bytes : (id : List ℕ) → is_uuid id ≡ true → All (λ b. b < 256) id
uuid_bytes id h = All-from_recursion (λ b. b < 256) id (small_bytes id
    (and_parts (length id == 16) (list_all (λ b. nat_lt b 256) id) h).1)

-- a UUID
pub uuid_back : (id : List ℕ) → is_uuid id ≡ true → uuid_in (uuid_text id) ≡ id
uuid_back id h = ap (λ o. unwrap_or o []) (sym (parses_hyphenated_text lower id (inl refl) (uuid_length id h)
    (uuid_bytes id h)))

-- a digest
pub digest_back : (n : ℕ) (bytes : List ℕ) → is_bytes n bytes ≡ true
    → digest_in (encode_lower bytes) ≡ bytes
digest_back n bytes h = ap (λ r. result_unwrap_or r []) (decode_of-encode_lower bytes
    (small_at bytes (small_bytes bytes (and_parts (length bytes == n) (list_all (λ b. nat_lt b 256) bytes) h).1)))

-- a number
pub number_back : (z : ℤ) → is_number z ≡ true → number_in (signed_decimal z) ≡ z
number_back (pos n) h =
    let d : IsNumeral 10 (decimal n) × (digits_value 10 (decimal n) ≡ n) =
    decimal_is_IsNumeral n (number_small n h) in
    let no_minus = slice_lacks 45 (decimal n) refl (decimal_lacks 45 n (omega arith)) 0 in
    let no_plus = slice_lacks 43 (decimal n) refl (decimal_lacks 43 n (omega arith)) 0 in
    rw (no_minus, no_plus) (ap pos d.1)
number_back (negsuc n) h =
    let d : IsNumeral 10 (decimal (suc n)) × (digits_value 10 (decimal (suc n)) ≡ suc n) =
    decimal_is_IsNumeral (suc n) (number_small_below n h) in
    ap (λ k. neg_ℤ (pos k)) d.1

-- ---- each entry is read back from its parts

-- the entry of the parts of a text
abbrev parts_in : List ℕ → Option Entry
parts_in text = entry_in (slice_split (λ c. c == 32) text)

-- an entry
back : (e : Entry) → IsFitEntry e → parts_in (entry_line e) ≡ Some e
back (Adds p identity kind size digest) fit =
    let f3 = and_parts _ _ fit in
    let f2 = and_parts _ _ f3.0 in
    let f1 = and_parts _ _ f2.0 in
    let f0 = and_parts _ _ f1.0 in
    ap entry_in (split_spaced (codes "add") (uuid_text p ∷ uuid_text identity ∷ kind_word kind ∷ decimal size
    ∷ encode_lower digest ∷ []) (lacks_by_test (codes "add") refl)
    (uuid_lacks p, (uuid_lacks identity, (kind_lacks kind, (number_lacks (pos size), (hex_lacks digest, tt))))))
    ∙ (λ j. option_map (λ k. Adds (uuid_back p f0.0 j) (uuid_back identity f0.1 j) k
    (unsigned_abs (number_back (pos size) f2.1 j)) (digest_back 32 digest f3.1 j)) (kind_back kind j))
back (Deletes p identity) fit =
    let f = and_parts _ _ fit in
    ap entry_in (split_spaced (codes "delete") (uuid_text p ∷ uuid_text identity ∷ [])
    (lacks_by_test (codes "delete") refl) (uuid_lacks p, (uuid_lacks identity, tt)))
    ∙ (λ j. Some (Deletes (uuid_back p f.0 j) (uuid_back identity f.1 j)))
back (Links p mapping base other) fit =
    let f1 = and_parts _ _ fit in
    let f0 = and_parts _ _ f1.0 in
    ap entry_in (split_spaced (codes "link") (mapping_word mapping ∷ uuid_text p ∷ uuid_text base
    ∷ uuid_text other ∷ []) (lacks_by_test (codes "link") refl)
    (mapping_lacks mapping, (uuid_lacks p, (uuid_lacks base, (uuid_lacks other, tt)))))
    ∙ (λ j. option_map (λ m. Links (uuid_back p f0.0 j) m (uuid_back base f0.1 j) (uuid_back other f1.1 j))
    (mapping_back mapping j))
back (Unlinks p mapping base other) fit =
    let f1 = and_parts _ _ fit in
    let f0 = and_parts _ _ f1.0 in
    ap entry_in (split_spaced (codes "unlink") (mapping_word mapping ∷ uuid_text p ∷ uuid_text base
    ∷ uuid_text other ∷ []) (lacks_by_test (codes "unlink") refl)
    (mapping_lacks mapping, (uuid_lacks p, (uuid_lacks base, (uuid_lacks other, tt)))))
    ∙ (λ j. option_map (λ m. Unlinks (uuid_back p f0.0 j) m (uuid_back base f0.1 j) (uuid_back other f1.1 j))
    (mapping_back mapping j))
back (Splits p child mode rect) fit =
    let f1 = and_parts _ _ fit in
    let f0 = and_parts _ _ f1.0 in
    let r3 = and_parts _ _ f1.1 in
    let r2 = and_parts _ _ r3.0 in
    let r1 = and_parts _ _ r2.0 in
    let r0 = and_parts _ _ r1.0 in
    ap entry_in (split_spaced (codes "split") (uuid_text p ∷ uuid_text child ∷ mode_word mode
    ∷ signed_decimal rect.zoom ∷ signed_decimal rect.column ∷ signed_decimal rect.last_column
    ∷ signed_decimal rect.row ∷ signed_decimal rect.last_row ∷ []) (lacks_by_test (codes "split") refl) (
      uuid_lacks p,
      (
        uuid_lacks child,
        (
          mode_lacks mode,
          (
            number_lacks rect.zoom,
            (
              number_lacks rect.column,
              (
                number_lacks rect.last_column,
                (number_lacks rect.row, (number_lacks rect.last_row, tt)),
              ),
            ),
          ),
        ),
      ),
    ))
    ∙ (λ j. option_map (λ m. Splits (uuid_back p f0.0 j) (uuid_back child f0.1 j) m
    (record {
      zoom = number_back rect.zoom r0.0 j;
      column = number_back rect.column r0.1 j;
      last_column = number_back rect.last_column r1.1 j;
      row = number_back rect.row r2.1 j;
      last_row = number_back rect.last_row r3.1 j;
    })) (mode_back mode j))
back (Merges child into ticket) fit =
    let f1 = and_parts _ _ fit in
    let f0 = and_parts _ _ f1.0 in
    ap entry_in (split_spaced (codes "merge") (uuid_text child ∷ uuid_text into ∷ signed_decimal ticket ∷ [])
    (lacks_by_test (codes "merge") refl) (uuid_lacks child, (uuid_lacks into, (number_lacks ticket, tt))))
    ∙ (λ j. Some (Merges (uuid_back child f0.0 j) (uuid_back into f0.1 j) (number_back ticket f1.1 j)))

-- the line of a fit entry is read as that entry
pub entry_from-line : (e : Entry) → IsFitEntry e → entry_from (entry_line e) ≡ Some e
unfolding entry_from
entry_from-line e fit =
    ap (option_and_then (λ x. then_some (is_fit_entry x && bytes_eq (entry_line x) (entry_line e)) x)) (back e fit)
    ∙ ap (λ b. then_some b e) (and_from (is_fit_entry e) (bytes_eq (entry_line e) (entry_line e)) fit
    (bytes_eq_itself (entry_line e)))

-- what is taken is fit, and the text is its line
taken : (text : List ℕ) (o : Option Entry) (e : Entry) → option_and_then
    (λ x. then_some (is_fit_entry x && bytes_eq (entry_line x) text) x) o ≡ Some e → IsFitEntry e
    × (text ≡ entry_line e)
taken text None e h = absurd (None≢Some h)
taken text (Some x) e h =
    elim (is_fit_entry x && bytes_eq (entry_line x) text) as
    (λ v. (is_fit_entry x && bytes_eq (entry_line x) text) ≡ v → then_some v x ≡ Some e → IsFitEntry e
    × (text ≡ entry_line e)) [
      | true ↦ λ passes is.
          let same : x ≡ e = ap (λ o. unwrap_or o x) is in
          let both : (is_fit_entry x ≡ true) × (bytes_eq (entry_line x) text ≡ true) =
          and_parts (is_fit_entry x) (bytes_eq (entry_line x) text) passes in
          (subst IsFitEntry same both.0, sym ((bytes_eq-Decides (entry_line x) text).0 both.1) ∙ ap entry_line same)
      | false ↦ λ _ is. absurd (None≢Some is)
    ] refl h

-- what is read is fit, and the text is its line
pub line-entry_from : (text : List ℕ) (e : Entry) → entry_from text ≡ Some e → IsFitEntry e
    × (text ≡ entry_line e)
unfolding entry_from
line-entry_from text e h = taken text (parts_in text) e h

-- UUIDs of one text are one
pub same_uuid : (a b : List ℕ) → is_uuid a ≡ true → is_uuid b ≡ true → uuid_text a ≡ uuid_text b
    → a ≡ b
same_uuid a b ha hb e = sym (uuid_back a ha) ∙ ap uuid_in e ∙ uuid_back b hb
