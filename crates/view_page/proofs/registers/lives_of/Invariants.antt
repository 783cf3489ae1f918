-- The packages so far.
use Rattle.std.proofs.Common.{◌≡◌, map, take}
use Rattle.sheet_types.specs.World.{World, receipts_of}
use Rattle.view_page.specs.Registers.{live_of}
use Rattle.view_world.specs.Kept.{AreKept}
use Rattle.view_page.proofs.registers.lives_of.Given as goal

abbrev pub invariant-loop-at : goal.invariant-loop-at
invariant-loop-at l = record {
  so : (w : World) → AreKept w l.sights l.sums → l.loans ≡ map (λ p. p.loan) w.packages
      → l.receipts ≡ receipts_of w
      → l.lives.items ≡ map (live_of w) (take l.at w.packages);
}
