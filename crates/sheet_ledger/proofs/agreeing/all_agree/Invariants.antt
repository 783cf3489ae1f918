use Rattle.std.proofs.Common.{take}
use Rattle.std.specs.List.{AllByRecursion}
use Rattle.std.specs.Ordering.{nat_cmp}
use Rattle.std.specs.Cmp.Lexicographic.{slice_cmp}
use Rattle.std.specs.BTreeMap.{get}
use Rattle.sheet_types.specs.World.{moved_thing}
use Rattle.sheet_ledger.specs.Agreeing.{Allows, said_of}
use Rattle.sheet_ledger.proofs.agreeing.all_agree.Given as goal

-- each so far is allowed
abbrev pub invariant-loop-moved : goal.invariant-loop-moved
invariant-loop-moved l = AllByRecursion (λ m. Allows (get (slice_cmp nat_cmp) l.told (moved_thing m)) (said_of m))
    (take l.moved-index l.things)
