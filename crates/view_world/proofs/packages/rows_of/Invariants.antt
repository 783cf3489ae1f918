use Rattle.std.proofs.Common.{◌≡◌, map, take}
use Rattle.sheet_types.specs.World.{World}
use Rattle.view_world.specs.Kept.{AreAsked, AreKept}
use Rattle.view_world.specs.Told.{package_row}
use Rattle.view_world.proofs.packages.rows_of.Given as goal

-- the rows of the packages so far
abbrev pub invariant-loop-at : goal.invariant-loop-at
invariant-loop-at l = record {
  so : (w : World) → AreKept w l.sights l.sums → AreAsked w l.loans l.moments
      → l.rows.items ≡ map (package_row w) (take l.at w.packages);
}
