use Rattle.std.proofs.Common.{◌≤ℤ◌, take}
use Rattle.std.specs.List.{AllByRecursion}
use Rattle.package_receipts.proofs.walk.end_of_number.Given as goal

abbrev pub invariant-loop-place : goal.invariant-loop-place
invariant-loop-place l = AllByRecursion (λ m. m.seq ≤ℤ l.fn.seq) (take l.place l.rows)
