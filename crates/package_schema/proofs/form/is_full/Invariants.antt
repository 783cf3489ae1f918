use Rattle.std.proofs.Common.{◌≡◌, take, false}
use Rattle.std.specs.List.{AllByRecursion}
use Rattle.sqlite.specs.Ops.{is_null}
use Rattle.package_schema.proofs.form.is_full.Given as goal

-- no value so far is NULL
abbrev pub invariant-loop-at : goal.invariant-loop-at
invariant-loop-at l = AllByRecursion (λ v. is_null v ≡ false) (take l.at l.row)
