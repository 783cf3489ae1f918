-- No finer level is small.
use Rattle.std.proofs.Common.{◌≡◌, ◌≤◌}
use Rattle.view_map.specs.Zooms.{finest_small}
use Rattle.view_map.proofs.zooms.finest_small.Given as goal

abbrev pub invariant-levels : goal.invariant-levels
invariant-levels l = record {
  within : l.level ≤ l.levels;
  finest : finest_small l.frame l.levels ≡ finest_small l.frame l.level;
}

abbrev pub decreases-levels : goal.decreases-levels
decreases-levels l = l.level
