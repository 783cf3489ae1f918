use Rattle.std.specs.Prelude.{◌≡◌, List, Option, Some, Ok, Err, take, slice_get}
use Rattle.sheet_types.specs.World.{Package}
use Rattle.package_tables.specs.declared.fault.Fault.{Fault}
use Rattle.world_queries.specs.Asking.{AsksAll}
use Rattle.world_decisions.specs.DecidingMerges.{first_clash}
use Rattle.world_decisions.specs.declared.deciding_merges.Clash.{Clash}
use Rattle.world_decisions.proofs.deciding_merges.first_taken.Given as goal

-- The first of the items so far is found, and all members were only read.
abbrev pub invariant-loop-place : goal.invariant-loop-place
invariant-loop-place g l = record {
  asked : AsksAll g.S.Store {X = Option Clash} {E = Fault} (λ w found. (p : Package)
      → slice_get w.packages l.fn.at ≡ Some p → found ≡ first_clash p (take l.place l.items)) l.fn.members.items
      l.members.items (Ok l.first);
}
