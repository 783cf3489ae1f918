-- One read of a world after another.
use Rattle.std.proofs.Common.{◌∙◌, ap, sym, subst, inl, inr}
use Rattle.sqlite.specs.Store.{Ghosts}
use Rattle.sheet_types.specs.World.{World}
use Rattle.world.specs.Worlds.{IsRead, Seen, StandsFor}
use Rattle.world_members.proofs.Standing.{all_stay_then}
use Rattle.world_members.specs.Members.{AllClean}
use Rattle.command_requests.specs.Listing.{IsUntouched}

module _ {S : Type 0} (g : Ghosts S) where
  read_then : (a b c : Seen S) → IsRead g a b → IsRead g b c → IsRead g a c
  read_then a b c first next = record {
    same = next.same ∙ ap (λ (s : Seen S). record s { members = c.members }) first.same;
    stay = all_stay_then g a.members b.members c.members first.stay next.stay;
    clean = λ clean. first.clean (next.clean clean);
    stands = λ w stands. next.stands w (first.stands w stands);
  }

  pub untouched_then : (a b c : Seen S) → IsUntouched g a b → IsRead g b c → IsUntouched g a c
  untouched_then a b c (inl same) next = inr (subst (λ s. IsRead g s c) same next)
  untouched_then a b c (inr first) next = inr (read_then a b c first next)

  pub stands_after : (a b : Seen S) → IsUntouched g a b → (w : World) → StandsFor g a w → StandsFor g b w
  stands_after a b (inl same) w stands = subst (λ s. StandsFor g s w) (sym same) stands
  stands_after a b (inr read) w stands = read.stands w stands

  pub untouched_both : (a b c : Seen S) → IsUntouched g a b → IsUntouched g b c → IsUntouched g a c
  untouched_both a b c first (inl same) = subst (λ s. IsUntouched g a s) (sym same) first
  untouched_both a b c first (inr read) = untouched_then a b c first read

  pub clean_before : (a b : Seen S) → IsUntouched g a b → AllClean g b.members → AllClean g a.members
  clean_before a b (inl same) clean = subst (λ (s : Seen S). AllClean g s.members) same clean
  clean_before a b (inr read) clean = read.clean clean
