-- Two reads of a world, one after the other; and the items that were read.
use Rattle.std.proofs.Common.{◌≡◌, List, Some, sym, subst, inl, inr, ℕ}
use Rattle.sqlite.specs.Store.{Ghosts}
use Rattle.sheet_types.specs.Answers.{holdings_answer}
use Rattle.sheet_types.specs.World.{World, holdings}
use Rattle.sheet_types.specs.declared.command.Item.{Item}
use Rattle.sheet_types.specs.declared.command.Relation.{Relation}
use Rattle.world.specs.Worlds.{Seen}
use Rattle.command_requests.proofs.Untouched.{untouched_then}
use Rattle.command_requests.specs.Listing.{IsUntouched}

module _ {S : Type 0} (g : Ghosts S) where
  pub untouched_both : (a b c : Seen S) → IsUntouched g a b → IsUntouched g b c → IsUntouched g a c
  untouched_both a b c first (inl same) = subst (λ s. IsUntouched g a s) (sym same) first
  untouched_both a b c first (inr read) = untouched_then g a b c first read

  -- nothing was done behind a read
  pub untouched_still : (a b c : Seen S) → IsUntouched g a b → c ≡ b → IsUntouched g a c
  untouched_still a b c first same = subst (λ s. IsUntouched g a s) (sym same) first
