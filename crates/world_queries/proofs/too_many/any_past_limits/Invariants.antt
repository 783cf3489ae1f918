use Rattle.std.proofs.Common.{◌≡◌, false, take}
use Rattle.std.specs.List.{list_any}
use Rattle.world_members.specs.Steps.{is_past_limits}
use Rattle.world_queries.specs.TooMany.{sums_with}
use Rattle.world_queries.proofs.too_many.any_past_limits.Given as goal

abbrev pub invariant-loop-place : goal.invariant-loop-place
invariant-loop-place g l = record {
  none : list_any is_past_limits (take l.place (sums_with l.members l.at l.sums))
      ≡ false;
}
