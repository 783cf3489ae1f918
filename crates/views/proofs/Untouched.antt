-- One read of a world after another.
use Rattle.std.proofs.Common.{Result, Ok, Err, sym, subst, inl, inr}
use Rattle.sqlite.specs.Store.{Ghosts}
use Rattle.sheet_types.specs.World.{World}
use Rattle.world_members.specs.Members.{AllClean, AllOpen}
use Rattle.world.specs.Worlds.{IsRead, Seen, StandsFor}
use Rattle.world.proofs.WorldsRead.{read_then}
use Rattle.view_world.specs.Looks.{LeavesOpen}
use Rattle.views.specs.Printed.{IsUntouched}

module _ {S : Type 0} (g : Ghosts S) where
  pub untouched_then : (a b c : Seen S) → IsUntouched g a b → IsRead g b c → IsUntouched g a c
  untouched_then a b c (inl same) next = inr (subst (λ s. IsRead g s c) same next)
  untouched_then a b c (inr first) next = inr (read_then g a b c first next)

  pub stands_after : (a b : Seen S) → IsUntouched g a b → (w : World) → StandsFor g a w → StandsFor g b w
  stands_after a b (inl same) w stands = subst (λ s. StandsFor g s w) (sym same) stands
  stands_after a b (inr read) w stands = read.stands w stands

  -- an answer behind a look leaves open what was open before it
  pub opens_behind : {X E : Type 0} (a b c : Seen S) (r : Result X E)
      → (AllClean g b.members → AllOpen g a.members → AllOpen g b.members)
      → (AllClean g c.members → AllClean g b.members) → LeavesOpen g b c r → LeavesOpen g a c r
  opens_behind a b c (Ok x) first before next = λ clean was_open. next clean (first (before clean) was_open)
  opens_behind a b c (Err e) first before next = λ clean. tt

  -- what is answered of a world that was left open
  pub opens_then : {X E : Type 0} (a b : Seen S) (r : Result X E)
      → (AllClean g b.members → AllOpen g a.members → AllOpen g b.members) → LeavesOpen g a b r
  opens_then a b (Ok x) first = first
  opens_then a b (Err e) first = λ clean. tt
