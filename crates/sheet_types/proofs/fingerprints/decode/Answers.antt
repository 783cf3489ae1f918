-- One byte more is that of the digest; in the end all are.
use Rattle.std.proofs.Common.{rules, ◌≡◌, ◌∙◌, ℕ, ◌+◌, ◌*◌, ◌<◌, ◌≤◌, ◌/◌}
use Rattle.std.proofs.Common.{◌%◌, ◌++◌, ◌∷◌, [], List, length, set, suc, take, get_or, arith, sym, ap}
use Rattle.std.specs.Prelude.{slice_index}
use Rattle.std.proofs.lemmas.List.{take_more, take_all, length-set}
use Rattle.std.proofs.Math.Seq.{take-suc-set}
use Rattle.hex.specs.Hex.{lower_digits}
use Rattle.sheet_types.specs.Reading.{digit_value}
use Rattle.sheet_types.proofs.Spelled.{high_at, low_at, byte_of}
use Rattle.sheet_types.proofs.fingerprints.decode.Goals as goal

pub loop-place-preserved : goal.loop-place-preserved
loop-place-preserved c = (
  length-set c.loop-place.digest c.loop-place.place _ ∙ c.loop-place.invariant.0,
  λ digest h is.
      let p = c.loop-place.place in
      let done = c.loop-place.digest in
      let own = c.loop-place.invariant.0 in
      let next : c.loop-place.place + 1 ≡ suc c.loop-place.place = omega arith in
      let value = c.digit_value.result * 16 + c.digit_value-in-loop-place.result in
      let long = h.long in
      let within : c.loop-place.place < length digest = omega (arith, long, c.loop-place-test.true) in
      let room : c.loop-place.place < length c.loop-place.digest = omega (arith, own, c.loop-place-test.true) in
      let high : c.digit_value.result ≡ digit_value (slice_index lower_digits (get_or digest p 0 / 16)) =
      c.digit_value.ensures ∙ ap (λ t. digit_value (slice_index t (2 * p))) is
      ∙ ap digit_value (high_at digest p 0 within) in
      let low : c.digit_value-in-loop-place.result ≡ digit_value
      (slice_index lower_digits (get_or digest p 0 % 16)) =
      c.digit_value-in-loop-place.ensures ∙ ap (λ t. digit_value (slice_index t (2 * p + 1))) is
      ∙ ap digit_value (low_at digest p 0 within) in
      let byte : c.digit_value.result * 16 + c.digit_value-in-loop-place.result ≡ get_or digest p 0 =
      (λ n. high n * 16 + low n) ∙ byte_of (get_or digest p 0) (h.bytes p) in
      ap (λ k. take k (set done p value)) next ∙ take-suc-set done p value room
      ∙ (λ n. c.loop-place.invariant.1 digest h is n ++ byte n ∷ []) ∙ sym (take_more digest p 0 within),
)

pub returns : goal.returns
returns c = λ digest h is.
    let long = h.long in
    let all : length digest ≤ c.loop-place.place = omega (arith, long, c.loop-place-test.false) in
    let same = c.loop-place.invariant.0 in
    let own : length c.loop-place.digest ≤ c.loop-place.place = omega (arith, same, c.loop-place-test.false) in
    sym (take_all c.loop-place.place c.loop-place.digest own) ∙ c.loop-place.invariant.1 digest h is
    ∙ take_all c.loop-place.place digest all
