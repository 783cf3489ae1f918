use Rattle.std.proofs.Common.{◌≡◌, Some, map, take}
use Rattle.sheet_types.specs.Answers.{sums_of}
use Rattle.sheet_types.specs.World.{World}
use Rattle.world.specs.Worlds.{StandsFor}
use Rattle.view_world.proofs.packages.sums_of.Given as goal

-- the sums of the packages so far
abbrev pub invariant-loop-at : goal.invariant-loop-at
invariant-loop-at g l = record {
  so : (w : World) → StandsFor g.S.Store l.fn.world w
      → map (λ x. Some x) l.all.items ≡ map (λ s. sums_of w s.uuid) (take l.at l.sights);
}
