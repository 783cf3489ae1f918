-- What reads as a UUID has 16 bytes (RFC 9562, section 4).
use Rattle.std.proofs.Common.{◌≡◌, ℕ, zero, suc, ◌<◌, ◌+◌, ◌*◌, List, [], ◌∷◌, Bool, true}
use Rattle.std.proofs.Common.{false, cond, Some, None, refl, sym, ap, ◌∙◌, length, get_or, arith}
use Rattle.std.specs.Prelude.{◌&&◌, ◌==◌}
use Rattle.std.specs.List.{AllByRecursion, list_all}
use Rattle.std.proofs.lemmas.Bool.{and_parts}
use Rattle.std.proofs.lemmas.Bool.Decides.{nat_tests}
use Rattle.std.proofs.lemmas.List.Elements.{All-from_get_or, recursion_from_All}
use borrow.Author.Tests.{eqb-true}
use Rattle.uuid.specs.Text.{parsed, parsed_hyphenated, parsed_simple, digits_of, has_hyphens, is_hex_digit, value_of}
use Rattle.uuid.specs.Text.{byte_of_digits, by_index}
use Rattle.uuid.proofs.TextLemmas.{by_index_length, by_index_at}
use Rattle.sheet_types.specs.Lines.{IsUuid}
use Rattle.sheet_types.specs.Texts.{uuid_text}
use Rattle.sheet_types.proofs.Basics.{some_same}
use Rattle.sheet_types.proofs.Fitting.{bytes_fit}
use Rattle.sheet_types.proofs.UuidTexts.{parsed_36}

-- what holds at each index holds of all
pub small_at : (xs : List ℕ) → ((k : ℕ) → k < length xs → get_or xs k 0 < 256)
    → AllByRecursion (λ b. b < 256) xs
small_at xs h = recursion_from_All (λ b. b < 256) xs (All-from_get_or (λ b. b < 256) xs 0 h)

-- what holds of all holds at each index
all_at : (test : ℕ → Bool) (xs : List ℕ) (k : ℕ) → list_all test xs ≡ true → k < length xs
    → test (get_or xs k 0) ≡ true
all_at test [] k h lt = absurd (omega arith)
all_at test (x ∷ xs) zero h lt = (and_parts (test x) (list_all test xs) h).0
all_at test (x ∷ xs) (suc k) h lt = all_at test xs k (and_parts (test x) (list_all test xs) h).1 (omega arith)

digit_small : (c : ℕ) → is_hex_digit c ≡ true → value_of c < 16
digit_small c h = grind (arith, nat_tests)

-- thirty-two digits are sixteen bytes
simple_fits : (hex u : List ℕ) → parsed_simple hex ≡ Some u → IsUuid u
simple_fits hex u = one ((length hex == 32) && list_all is_hex_digit hex) refl
  where
    one : (b : Bool) → ((length hex == 32) && list_all is_hex_digit hex) ≡ b
        → cond b (Some (by_index 16 (byte_of_digits hex))) None ≡ Some u → IsUuid u
    one false e h = cc
    one true e h =
        let parts = and_parts (length hex == 32) (list_all is_hex_digit hex) e in
        let long : length hex ≡ 32 = eqb-true (length hex) 32 parts.0 in
        rw (sym (some_same h)) (bytes_fit 16 (by_index 16 (byte_of_digits hex))
        (by_index_length 16 (byte_of_digits hex)) (small_at (by_index 16 (byte_of_digits hex)) (λ k lt.
        let within : k < 16 = omega (arith, by_index_length 16 (byte_of_digits hex), lt) in
        let high = digit_small (get_or hex (2 * k) 0) (all_at is_hex_digit hex (2 * k) parts.1 (omega arith)) in
        let low = digit_small (get_or hex (2 * k + 1) 0) (all_at is_hex_digit hex (2 * k + 1) parts.1 (omega arith)) in
        rw (by_index_at 16 (byte_of_digits hex) k 0 within) (omega arith))))

pub hyphenated_fits : (text u : List ℕ) → parsed_hyphenated text ≡ Some u → IsUuid u
hyphenated_fits text u = one ((length text == 36) && has_hyphens text)
  where
    one : (b : Bool) → cond b (parsed_simple (digits_of text)) None ≡ Some u → IsUuid u
    one false h = cc
    one true h = simple_fits (digits_of text) u h

-- what reads back out of its own text is a UUID
pub fits_by_text : (id text : List ℕ) → text ≡ uuid_text id → Some id ≡ parsed text → IsUuid id
fits_by_text id text same back = hyphenated_fits (uuid_text id) id
    (sym (parsed_36 (uuid_text id) (by_index_length 36 _)) ∙ ap parsed (sym same) ∙ sym back)
