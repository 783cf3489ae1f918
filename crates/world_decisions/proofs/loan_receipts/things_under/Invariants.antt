use Rattle.std.proofs.Common.{◌≡◌, List, Some, Ok, slice_get, take, map}
use Rattle.sheet_types.specs.World.{Package}
use Rattle.sheet_types.specs.declared.receipt.Moved.{Moved}
use Rattle.world_queries.specs.Asking.{AsksAll}
use Rattle.world_decisions.proofs.Things.{told_of}
use Rattle.world_decisions.proofs.loan_receipts.things_under.Given as goal

-- each identity so far has its thing
abbrev pub invariant-loop-identity : goal.invariant-loop-identity
invariant-loop-identity g l = record {
  asked : AsksAll g.S.Store {X = List Moved} {E = Unit {0}} (λ w things. (p : Package)
      → slice_get w.packages l.fn.at ≡ Some p → map (told_of p) (take l.identity-index l.identities)
      ≡ map Some things) l.fn.members.items l.members.items (Ok l.things.items);
}
