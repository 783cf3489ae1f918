-- Digits of a spelled digest, by their places.
use Rattle.std.proofs.Common.{◌≡◌, ℕ, zero, suc, ◌+◌, ◌*◌, ◌/◌, ◌%◌, ◌<◌, List, []}
use Rattle.std.proofs.Common.{◌∷◌, length, get_or, arith, refl, sym, ap, ◌∙◌}
use Rattle.std.specs.Prelude.{slice_index}
use Rattle.hex.specs.Hex.{encode_with, encode_lower, lower_digits}
use Rattle.sheet_types.specs.Reading.{digit_value}

-- a byte's digits stand at twice its place
pub high_at : (d : List ℕ) (p x : ℕ) → p < length d → get_or (encode_lower d) (2 * p) x
    ≡ slice_index lower_digits (get_or d p x / 16)
unfolding encode_with
high_at [] p x less = absurd (omega (arith, less))
high_at (b ∷ d) zero x less = refl
high_at (b ∷ d) (suc p) x less =
    let e : 2 * suc p ≡ suc (suc (2 * p)) = omega arith in
    let within : p < length d = omega (arith, less) in
    rw e (high_at d p x within)

pub low_at : (d : List ℕ) (p x : ℕ) → p < length d → get_or (encode_lower d) (2 * p + 1) x
    ≡ slice_index lower_digits (get_or d p x % 16)
unfolding encode_with
low_at [] p x less = absurd (omega (arith, less))
low_at (b ∷ d) zero x less = refl
low_at (b ∷ d) (suc p) x less =
    let e : 2 * suc p + 1 ≡ suc (suc (2 * p + 1)) = omega arith in
    let within : p < length d = omega (arith, less) in
    rw e (low_at d p x within)

valued : (n : ℕ) → n < 16 → digit_value (slice_index lower_digits n) ≡ n
valued zero h = refl
valued (suc zero) h = refl
valued (suc (suc zero)) h = refl
valued (suc (suc (suc zero))) h = refl
valued (suc (suc (suc (suc zero)))) h = refl
valued (suc (suc (suc (suc (suc zero))))) h = refl
valued (suc (suc (suc (suc (suc (suc zero)))))) h = refl
valued (suc (suc (suc (suc (suc (suc (suc zero))))))) h = refl
valued (suc (suc (suc (suc (suc (suc (suc (suc zero)))))))) h = refl
valued (suc (suc (suc (suc (suc (suc (suc (suc (suc zero))))))))) h = refl
valued (suc (suc (suc (suc (suc (suc (suc (suc (suc (suc zero)))))))))) h = refl
valued (suc (suc (suc (suc (suc (suc (suc (suc (suc (suc (suc zero))))))))))) h = refl
valued (suc (suc (suc (suc (suc (suc (suc (suc (suc (suc (suc (suc zero)))))))))))) h = refl
valued (suc (suc (suc (suc (suc (suc (suc (suc (suc (suc (suc (suc (suc zero))))))))))))) h = refl
valued (suc (suc (suc (suc (suc (suc (suc (suc (suc (suc (suc (suc (suc (suc zero)))))))))))))) h = refl
valued (suc (suc (suc (suc (suc (suc (suc (suc (suc (suc (suc (suc (suc (suc (suc zero))))))))))))))) h = refl
valued (suc (suc (suc (suc (suc (suc (suc (suc (suc (suc (suc (suc (suc (suc (suc (suc n)))))))))))))))) h =
    absurd (omega (arith, h))

-- two digits are the byte that they spell
pub byte_of : (b : ℕ) → b < 256 → digit_value (slice_index lower_digits (b / 16)) * 16 + digit_value
    (slice_index lower_digits (b % 16)) ≡ b
byte_of b less =
    let high : b / 16 < 16 = omega (arith, less) in
    let low : b % 16 < 16 = omega arith in
    rw (valued (b / 16) high, valued (b % 16) low) (omega arith)
