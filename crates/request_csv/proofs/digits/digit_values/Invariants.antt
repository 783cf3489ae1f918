-- The table has the values of the bytes so far.
use Rattle.std.proofs.Common.{◌≡◌, ◌<◌, ℕ, get_or, length}
use Rattle.request_csv.specs.Digits.{digit_value}
use Rattle.request_csv.proofs.digits.digit_values.Given as goal

abbrev pub invariant-loop-i : goal.invariant-loop-i
invariant-loop-i l = (length l.values ≡ 256) × ((byte : ℕ) → byte < l.i
    → get_or l.values byte 0 ≡ digit_value byte)
