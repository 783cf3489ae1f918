use Rattle.std.proofs.Common.{◌↔◌, ℕ, List, take}
use Rattle.std.specs.List.{AllByRecursion}
use Rattle.std.specs.Ordering.{nat_cmp}
use Rattle.std.specs.Cmp.Lexicographic.{slice_cmp}
use Rattle.std.specs.BTreeMap.{get}
use Rattle.sheet_ledger.specs.Agreeing.{Allows, SaysSo}
use Rattle.sheet_ledger.specs.declared.agreeing.Said.{Said}
use Rattle.sheet_ledger.proofs.agreeing.note_all.Given as goal

-- what those so far say is noted
abbrev pub invariant-loop-moved : goal.invariant-loop-moved
invariant-loop-moved l = (thing : List ℕ) (u : Said) → Allows (get (slice_cmp nat_cmp) l.told thing) u ↔
    (Allows (get (slice_cmp nat_cmp) l.initial.told thing) u
    × AllByRecursion (SaysSo thing u) (take l.moved-index l.things))
