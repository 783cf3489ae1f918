use Rattle.std.proofs.Common.{◌≡◌, ℕ, List, [], take}
use Rattle.sheet_balance.specs.Splits.{lents_in, lents_seen}
use Rattle.sheet_balance.proofs.splits.splits_of.Given as goal

-- the splits of the sights so far
abbrev pub invariant-loop-sight : goal.invariant-loop-sight
invariant-loop-sight l = record {
  has : (p : List ℕ) → lents_in l.splits p ≡ lents_seen p (take l.sight-index l.sights);
  whole : lents_in l.splits [] ≡ [];
}
