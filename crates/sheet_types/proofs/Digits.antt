-- Texts of lower-case hexadecimal digits.
use Rattle.std.proofs.Common.{◌≡◌, ℕ, ◌<◌, List, [], ◌∷◌, nat_lt, Result, Ok, Err, MatchResult}
use Rattle.std.proofs.Common.{OnOk, true, refl, sym, subst, arith}
use Rattle.std.specs.List.{list_all}
use Rattle.std.specs.Str.{IsAscii, IsUtf8}
use Rattle.std.specs.Cmp.Lexicographic.{pointwise}
use Rattle.std.proofs.Math.Dec.{eqb}
use Rattle.std.proofs.lemmas.Bool.{and_parts, eq-eqb}
use Rattle.std.proofs.lemmas.Bool.Decides.{nat_tests}
use Rattle.std.proofs.lemmas.Str.{IsUtf8-from_ascii}
use Rattle.std.proofs.lemmas.Str.Ascii.{IsAscii-nil, IsAscii-cons}
use Rattle.hex.specs.Hex.{encode_lower, lower_digits, decode_sized}
use Rattle.hex.specs.declared.error.FromHexError.{FromHexError}
use Rattle.hex.proofs.HexLemmas.{IsAscii-encode_with, decode_sized-encode_lower}
use Rattle.sheet_types.specs.Reading.{IsDigest}

-- a list that passes the test is of ASCII codes
pub IsAscii-from_test : (xs : List ℕ) → list_all (λ c. nat_lt c 128) xs ≡ true → IsAscii xs
IsAscii-from_test [] h = IsAscii-nil
IsAscii-from_test (x ∷ xs) h =
    let parts = and_parts (nat_lt x 128) (list_all (λ c. nat_lt c 128) xs) h in
    let first : nat_lt x 128 ≡ true = parts.0 in
    let below : x < 128 = grind (arith, nat_tests, first) in
    IsAscii-cons x xs below (IsAscii-from_test xs parts.1)

-- digits are text
pub IsUtf8-encode_lower : (xs : List ℕ) → IsUtf8 (encode_lower xs)
IsUtf8-encode_lower xs = IsUtf8-from_ascii (encode_lower xs)
    (IsAscii-encode_with lower_digits xs (IsAscii-from_test lower_digits refl))

-- written digits are never refused as text
pub never_refused : {E : Type 0} (xs out : List ℕ) (r : Result Unit E) → r ≡ Ok tt
    → OnOk r (out ≡ encode_lower xs) → (IsUtf8 out → ⊥) → ⊥
never_refused xs out r is wrote refused =
    let same : out ≡ encode_lower xs = rw is at wrote in
    refused (subst IsUtf8 (sym same) (IsUtf8-encode_lower xs))

-- what a spelled digest decodes to
pub decodes : (digest : List ℕ) → IsDigest digest → decode_sized (encode_lower digest) 32 ≡ Ok digest
decodes digest h = decode_sized-encode_lower digest 32 h.long h.bytes

-- the call that decodes a spelled digest gives it
pub decoded : (digest text out : List ℕ) (r : Result Unit FromHexError) → IsDigest digest
    → text ≡ encode_lower digest
    → MatchResult (decode_sized text 32) (λ bytes. (r ≡ Ok tt) × (out ≡ bytes)) (λ e. r ≡ Err e)
    → (r ≡ Ok tt) × (out ≡ digest)
decoded digest text out r h is said = rw (is, decodes digest h) at said

-- a text is the same as itself
pub same_as_itself : (xs : List ℕ) → pointwise eqb xs xs ≡ true
same_as_itself [] = refl
same_as_itself (x ∷ xs) = rw (eq-eqb x x refl) (same_as_itself xs)
