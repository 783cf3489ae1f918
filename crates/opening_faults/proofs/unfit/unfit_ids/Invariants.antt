use Rattle.std.proofs.Common.{[]}
use Rattle.opening_faults.specs.Foreign.{Adds}
use Rattle.opening_faults.specs.Unfit.{IsUnfitBelow}
use Rattle.opening_faults.proofs.unfit.unfit_ids.Given as goal

-- those of the places so far
abbrev pub invariant-loop-place : goal.invariant-loop-place
invariant-loop-place l = Adds (IsUnfitBelow l.live l.fit l.sights l.place) [] l.ids.items
