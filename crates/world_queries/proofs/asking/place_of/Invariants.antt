use Rattle.std.proofs.Common.{◌≡◌, false, take, bytes_eq}
use Rattle.std.specs.List.{list_any}
use Rattle.world_queries.proofs.asking.place_of.Given as goal

abbrev pub invariant-loop-at : goal.invariant-loop-at
invariant-loop-at g l = record { none : list_any (λ m. bytes_eq m.uuid l.fn.uuid) (take l.at l.members) ≡ false }
