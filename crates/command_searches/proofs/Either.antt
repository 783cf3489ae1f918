-- Two reads of a world, one after the other.
use Rattle.std.proofs.Common.{sym, subst, inl, inr, Result, Ok, Err}
use Rattle.std.specs.Prelude.{IfOk}
use Rattle.sqlite.specs.Store.{Ghosts}
use Rattle.world.specs.Worlds.{Seen}
use Rattle.world_members.specs.Members.{AllClean}
use Rattle.command_requests.proofs.Untouched.{untouched_then}
use Rattle.command_requests.specs.Listing.{IsUntouched}

module _ {S : Type 0} (g : Ghosts S) where
  pub untouched_both : (a b c : Seen S) → IsUntouched g a b → IsUntouched g b c → IsUntouched g a c
  untouched_both a b c first (inl same) = subst (λ s. IsUntouched g a s) (sym same) first
  untouched_both a b c first (inr read) = untouched_then g a b c first read

  pub clean_before : (a b : Seen S) → IsUntouched g a b → AllClean g b.members → AllClean g a.members
  clean_before a b (inl same) clean = subst (λ (s : Seen S). AllClean g s.members) same clean
  clean_before a b (inr read) clean = read.clean clean

pub if_ok_so : {X E : Type 0} (P Q : X → Type 0) (r : Result X E) → ((x : X) → P x → Q x) → IfOk r (λ x. P x)
    → IfOk r (λ x. Q x)
if_ok_so P Q (Ok x) so it = so x it
if_ok_so P Q (Err e) so it = tt
