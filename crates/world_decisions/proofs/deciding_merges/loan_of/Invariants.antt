use Rattle.std.proofs.Common.{◌≡◌, false, take}
use Rattle.std.specs.List.{list_any}
use Rattle.sheet_types.specs.Custody.{ends_at}
use Rattle.world_decisions.proofs.deciding_merges.loan_of.Given as goal

abbrev pub invariant-loop-at : goal.invariant-loop-at
invariant-loop-at g l = record { none : list_any (λ m. ends_at m.parent l.fn.child) (take l.at l.members) ≡ false }
