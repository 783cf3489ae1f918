-- Two digits, by their values.
use Rattle.std.proofs.Common.{◌≡◌, ◌≢◌, ◌∙◌, ◌⊎◌, ◌+◌, ◌-◌, ◌*◌, ◌%◌, ◌<◌}
use Rattle.std.proofs.Common.{◌≤◌, ◌==◌, ◌&&◌, ℕ, Bool, true, false}
use Rattle.std.proofs.Common.{nat_le, List, length, take, drop, slice_index, Option, Some, None, Ok, Err, IfSome}
use Rattle.std.proofs.Common.{unwrap_or, is_ok, if◌then◌else◌, refl, sym, ap, inl, inr, leb-true, arith}
use Rattle.std.proofs.lemmas.Bool.{and_parts, false≢true}
use Rattle.std.proofs.lemmas.Bool.Decides.{nat_tests}
use Rattle.hex.specs.Hex.{decode_of, decode_pairs, digit_or_error, hex_digit_value, pair_value, ◌>>=◌}
use Rattle.hex.proofs.Pairs.{decode_err, prepend}
use Rattle.hex.specs.declared.error.FromHexError.{FromHexError}
use Rattle.hex.specs.declared.error.FromHexError.TheVariants.{InvalidHexCharacter, OddLength}
use Rattle.request_csv.specs.Digits.{AreDigits, digit_value}

IsSmall : Option ℕ → Type 0
IsSmall o = IfSome o (λ v. v < 16)

chosen : (a b d : Bool) (x y z : ℕ) → (a ≡ true → x < 16) → (b ≡ true → y < 16)
    → (d ≡ true → z < 16)
    → IsSmall (if a then Some x else if b then Some y else if d then Some z else None)
unfolding IsSmall
chosen true b d x y z p q r = p refl
chosen false true d x y z p q r = q refl
chosen false false true x y z p q r = r refl
chosen false false false x y z p q r = tt

within : (low high c : ℕ) → (nat_le low c && nat_le c high) ≡ true → (low ≤ c) × (c ≤ high)
within low high c e =
    let parts = and_parts (nat_le low c) (nat_le c high) e in
    (leb-true low c parts.0, leb-true c high parts.1)

small : (c : ℕ) → IsSmall (hex_digit_value c)
small c = chosen (nat_le 65 c && nat_le c 70) (nat_le 97 c && nat_le c 102) (nat_le 48 c && nat_le c 57) (c - 55)
    (c - 87) (c - 48)
    (λ e. let i = within 65 70 c e in omega (arith, i.0, i.1))
    (λ e. let i = within 97 102 c e in omega (arith, i.0, i.1))
    (λ e. let i = within 48 57 c e in omega (arith, i.0, i.1))

read : (o p : Option ℕ) (a b i : ℕ) → unwrap_or o 255 < 16 → unwrap_or p 255 < 16
    → (digit_or_error a i o >>= (λ h. digit_or_error b (i + 1) p >>= (λ l. Ok (h * 16 + l))))
    ≡ Ok (unwrap_or o 255 * 16 + unwrap_or p 255)
read (Some h) (Some l) a b i x y = refl
read (Some h) None a b i x y = absurd (omega (arith, y))
read None p a b i x y = absurd (omega (arith, x))

unread : (o p : Option ℕ) (a b i : ℕ) → IsSmall o → IsSmall p → (16 ≤ unwrap_or o 255)
    ⊎ (16 ≤ unwrap_or p 255)
    → (fault : FromHexError) × ((digit_or_error a i o >>= (λ h. digit_or_error b (i + 1) p >>=
    (λ l. Ok (h * 16 + l)))) ≡ Err fault)
unfolding IsSmall
unread None p a b i s t f = (InvalidHexCharacter a i, refl)
unread (Some h) None a b i s t f = (InvalidHexCharacter b (i + 1), refl)
unread (Some h) (Some l) a b i s t (inl f) = absurd (omega (arith, s, f))
unread (Some h) (Some l) a b i s t (inr f) = absurd (omega (arith, t, f))

-- two digits are a byte
pub byte_read : (values : List ℕ) (a b : ℕ) → AreDigits values → a < 256 → b < 256
    → slice_index values a < 16
    → slice_index values b < 16
    → (i : ℕ) → pair_value a b i ≡ Ok (slice_index values a * 16 + slice_index values b)
byte_read values a b are s t x y i =
    let first : slice_index values a ≡ digit_value a = are a s in
    let second : slice_index values b ≡ digit_value b = are b t in
    rw (first, second) (read (hex_digit_value a) (hex_digit_value b) a b i (omega (arith, first, x))
    (omega (arith, second, y)))

-- where one is none, they are no byte
pub byte_unread : (values : List ℕ) (a b : ℕ) → AreDigits values → a < 256 → b < 256
    → (16 ≤ slice_index values a)
    ⊎ (16 ≤ slice_index values b)
    → (i : ℕ) → (fault : FromHexError) × (pair_value a b i ≡ Err fault)
byte_unread values a b are s t f i = unread (hex_digit_value a) (hex_digit_value b) a b i (small a) (small b) (either f)
  where
    either : (16 ≤ slice_index values a) ⊎ (16 ≤ slice_index values b) → (16 ≤ digit_value a)
        ⊎ (16 ≤ digit_value b)
    either (inl x) = let first : slice_index values a ≡ digit_value a = are a s in inl (omega (arith, first, x))
    either (inr y) = let second : slice_index values b ≡ digit_value b = are b t in inr (omega (arith, second, y))

-- no bytes come of a text with a pair that is none
pub no_bytes : (s out : List ℕ) (i : ℕ) → 2 * i + 1 < length s
    → (fault : FromHexError) × (pair_value (slice_index s (2 * i)) (slice_index s (2 * i + 1)) (2 * i) ≡ Err fault)
    → decode_pairs 0 s ≡ prepend (take i out) (decode_pairs (2 * i) (drop (2 * i) s))
    → (found : List ℕ) → decode_pairs 0 s ≢ Ok found
no_bytes s out i fits bad inv found e =
    let d = decode_err s out i bad.0 fits bad.1 inv in
    false≢true (ap is_ok (sym d ∙ e))

-- a text of an even length is read by pairs
pub of_even : (s : List ℕ) → length s % 2 ≡ 0 → decode_of s ≡ decode_pairs 0 s
of_even s even =
    let test : (length s % 2 == 1) ≡ false = grind (arith, nat_tests) in
    rw test refl

pub of_odd : (s found : List ℕ) → length s % 2 ≢ 0 → decode_of s ≢ Ok found
of_odd s found odd e =
    let test : (length s % 2 == 1) ≡ true = grind (arith, nat_tests) in
    let none : decode_of s ≡ Err OddLength = rw test refl in
    false≢true (ap is_ok (sym none ∙ e))
