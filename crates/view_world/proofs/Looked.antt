-- A world that is looked at again and again.
use Rattle.std.proofs.Common.{◌≡◌, sym, subst, inl, inr}
use Rattle.std.specs.Prelude.{Bool, true, false}
use Rattle.sqlite.specs.Store.{Ghosts}
use Rattle.sheet_types.specs.World.{World}
use Rattle.world_members.specs.Members.{AllClean}
use Rattle.world.specs.Worlds.{IsRead, Seen, StandsFor}
use Rattle.world.proofs.WorldsRead.{read_then}
use Rattle.view_world.specs.Looks.{IsLookedAt}

-- of a world that has not failed nothing is said where it has
pub not_failed : {X : Type 0} (failed : Bool) → failed ≡ false → failed ≡ true → X
not_failed failed passed is = absurd (cc)

module _ {S : Type 0} (g : Ghosts S) where
  pub looked_then : (a b c : Seen S) → IsLookedAt g a b → IsLookedAt g b c → IsLookedAt g a c
  looked_then a b c (inl same) next = subst (λ s. IsLookedAt g s c) same next
  looked_then a b c (inr first) (inl same) = inr (subst (λ s. IsRead g a s) (sym same) first)
  looked_then a b c (inr first) (inr next) = inr (read_then g a b c first next)

  pub looked_stands : (a b : Seen S) → IsLookedAt g a b → (w : World) → StandsFor g a w → StandsFor g b w
  looked_stands a b (inl same) w stands = subst (λ s. StandsFor g s w) (sym same) stands
  looked_stands a b (inr read) w stands = read.stands w stands

  pub looked_clean : (a b : Seen S) → IsLookedAt g a b → AllClean g b.members → AllClean g a.members
  looked_clean a b (inl same) clean = subst (λ s. AllClean g s.members) same clean
  looked_clean a b (inr read) clean = read.clean clean
