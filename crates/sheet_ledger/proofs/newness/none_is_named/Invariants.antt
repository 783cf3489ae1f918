use Rattle.std.proofs.Common.{◌≡◌, false, take}
use Rattle.std.specs.List.{AllByRecursion}
use Rattle.std.specs.Ordering.{nat_cmp}
use Rattle.std.specs.Cmp.Lexicographic.{slice_cmp}
use Rattle.std.specs.BTreeSet.{contains}
use Rattle.sheet_ledger.proofs.newness.none_is_named.Given as goal

-- no base so far is named
abbrev pub invariant-loop-moved : goal.invariant-loop-moved
invariant-loop-moved l = AllByRecursion (λ m. contains (slice_cmp nat_cmp) l.named m.base ≡ false)
    (take l.moved-index l.things)
