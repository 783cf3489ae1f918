-- Which of equal parts lie between two ends.
use Rattle.std.specs.Prelude.{◌≡◌, ◌↔◌, ℕ, suc, ◌+◌, ◌-◌, ◌*◌, ◌/◌, ◌<◌, ◌≤◌}
use Rattle.std.specs.Prelude.{true, false, ◌&&◌, ℤ, pos, negsuc, ◌+ℤ◌, ◌-ℤ◌, ◌*ℤ◌}
use Rattle.std.specs.Prelude.{◌≤ℤ◌, ◌<ℤ◌, int_le, int_div, refl}
use Rattle.std.specs.Cmp.{both_ways}
use Rattle.std.proofs.Common.{arith, sym}
use Rattle.std.proofs.lemmas.Bool.{and_parts, and_from, false_from_ne_true}
use Rattle.std.proofs.lemmas.Int.{ints}
use Rattle.std.proofs.Math.Nat.{div-lt_iff_lt-mul, le-div_iff_mul-le, mul-le-mul_right}
use Rattle.sheet_types.specs.Matrix.{is_within}
use Rattle.matrix_rules.specs.Places.{is_between}

-- the part c begins at or after the start exactly where it is no less than the quotient rounded up
starts : (start length c : ℕ) → 0 < length → (start ≤ c * length) ↔ ((start + length - 1) / length ≤ c)
starts start length c some =
    let iff : ((start + length - 1) / length < suc c) ↔ (start + length - 1 < suc c * length) =
    div-lt_iff_lt-mul some in
    let next : suc c * length ≡ c * length + length = omega arith in (
      (λ h. let below : (start + length - 1) / length < suc c = iff.1 (omega arith) in omega arith),
      (λ h. let product : start + length - 1 < suc c * length = iff.0 (omega arith) in omega arith),
    )

-- it ends at or before the end exactly where it is below the quotient
ends : (end length c : ℕ) → 0 < length → ((c + 1) * length ≤ end) ↔ (c < end / length)
ends end length c some =
    let iff : ((c + 1) ≤ end / length) ↔ ((c + 1) * length ≤ end) = le-div_iff_mul-le some in
    ((λ h. let below : c + 1 ≤ end / length = iff.1 h in omega arith), (λ h. iff.0 (omega arith)))

pub positive_product : (a b : ℕ) → 0 < b → 0 < suc a * b
positive_product a b h = omega (arith, mul-le-mul_right {m = 1} {n = suc a} b (omega arith))

-- a part with a number below 0 begins before the axis
before_axis : (start length c : ℕ) → 0 < length → int_le (pos start) (negsuc c *ℤ pos length) ≡ false
before_axis start length c some = let more = positive_product c length some in sym (omega (arith, ints, more))

between : (start end length : ℕ) (part : ℤ) → 0 < length → is_between (pos start) (pos end) (pos length) part
    ≡ is_within (pos ((start + length - 1) / length)) (pos (end / length) -ℤ pos 1) part
between start end length (pos c) some =
    both_ways (int_le (pos start) (pos (c * length)) && int_le (pos ((c + 1) * length)) (pos end))
    (int_le (pos ((start + length - 1) / length)) (pos c) && int_le (pos c) (pos (end / length) -ℤ pos 1))
    (λ h.
    let parts = and_parts (int_le (pos start) (pos (c * length))) (int_le (pos ((c + 1) * length)) (pos end)) h in
    let low : (start + length - 1) / length ≤ c = (starts start length c some).0 (omega (arith, ints, parts.0)) in
    let high : c < end / length = (ends end length c some).0 (omega (arith, ints, parts.1)) in
    let left : true ≡ int_le (pos ((start + length - 1) / length)) (pos c) = omega (arith, ints, low) in
    let right : true ≡ int_le (pos c) (pos (end / length) -ℤ pos 1) = omega (arith, ints, high) in
    and_from _ _ (sym left) (sym right))
    (λ h.
    let parts = and_parts (int_le (pos ((start + length - 1) / length)) (pos c))
    (int_le (pos c) (pos (end / length) -ℤ pos 1)) h in
    let low : start ≤ c * length = (starts start length c some).1 (omega (arith, ints, parts.0)) in
    let high : (c + 1) * length ≤ end = (ends end length c some).1 (omega (arith, ints, parts.1)) in
    let left : true ≡ int_le (pos start) (pos (c * length)) = omega (arith, ints, low) in
    let right : true ≡ int_le (pos ((c + 1) * length)) (pos end) = omega (arith, ints, high) in
    and_from _ _ (sym left) (sym right))
between start end length (negsuc c) some = rw (before_axis start length c some) refl

-- which parts lie between two ends of an axis
are_parts : (start end length : ℤ) → pos 0 ≤ℤ start → pos 0 ≤ℤ end → pos 1 ≤ℤ length
    → (part : ℤ) → is_between start end length part ≡ is_within
    (int_div ((start +ℤ length) -ℤ pos 1) length) (int_div end length -ℤ pos 1) part
are_parts (pos start) (pos end) (pos length) start_low end_low length_low part =
    let some : 0 < length = omega (arith, ints, length_low) in
    let top : (pos start +ℤ pos length) -ℤ pos 1 ≡ pos (start + length - 1) = omega (arith, ints, length_low) in
    rw top (between start end length part some)
are_parts (negsuc start) end length start_low end_low length_low part = absurd (omega (arith, ints, start_low))
are_parts (pos start) (negsuc end) length start_low end_low length_low part = absurd (omega (arith, ints, end_low))
are_parts (pos start) (pos end) (negsuc length) start_low end_low length_low part =
    absurd (omega (arith, ints, length_low))

-- the same, with the quotients under names
pub parts_named : (start end length first past : ℤ) → pos 0 ≤ℤ start → pos 0 ≤ℤ end
    → pos 1 ≤ℤ length → first ≡ int_div ((start +ℤ length) -ℤ pos 1) length
    → past ≡ int_div end length → (part : ℤ) → is_between start end length part
    ≡ is_within first (past -ℤ pos 1) part
parts_named start end length first past start_low end_low length_low first_is past_is part =
    rw (first_is, past_is) (are_parts start end length start_low end_low length_low part)

-- nothing is between ends that have changed places
pub nothing_within : (low high x : ℤ) → high <ℤ low → is_within low high x ≡ false
nothing_within low high x h = false_from_ne_true _ (λ e. let parts =
    and_parts (int_le low x) (int_le x high) e in omega (arith, ints, parts.0, parts.1))
