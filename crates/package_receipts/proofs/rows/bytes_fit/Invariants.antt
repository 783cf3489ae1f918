use Rattle.std.proofs.Common.{◌<◌, ℕ, get_or}
use Rattle.package_receipts.proofs.rows.bytes_fit.Given as goal

abbrev pub invariant-loop-place : goal.invariant-loop-place
invariant-loop-place g l = (k : ℕ) → k < l.place → get_or l.bytes k 0 < 256
