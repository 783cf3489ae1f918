-- What came of an item that a word names.
use Rattle.std.proofs.Common.{◌≡◌, ℕ, List, Option, Ok}
use Rattle.sqlite.specs.Store.{Ghosts}
use Rattle.world.specs.Worlds.{Seen}
use Rattle.command_names.specs.declared.searching.Found.{Found}
use Rattle.command_naming.specs.Drops.{DropsFound, DropsItem}
use Rattle.command_naming.specs.Naming.{named}
use Rattle.command_naming.specs.declared.drops.DropOutcome.{DropOutcome}
use Rattle.command_naming.specs.declared.drops.DropOutcome.TheVariants.{Unnamed, Linked, Planned, Dropped}
use Rattle.command_naming.specs.declared.drops.Dropping.{Dropping}

module _ {S : Type 0} (g : Ghosts S) {N : Type 0} (Gives : Option (List ℕ) → N → N → Type 0) where
  pub dropped_so : (d : Dropping) (found : Found) (id : List ℕ) (old new : Seen S) (ids ids' : N)
      (outcome : DropOutcome) (before after : ℕ)
      → named d.word.now found ≡ Ok id → DropsItem g Gives d id old new ids ids' outcome before after
      → DropsFound g Gives d found old new ids ids' outcome before after
  dropped_so d found id old new ids ids' (Unnamed fault told) before after is it = absurd it.made
  dropped_so d found id old new ids ids' (Linked links) before after is it = (id, is, it)
  dropped_so d found id old new ids ids' (Planned requests) before after is it = (id, is, it)
  dropped_so d found id old new ids ids' (Dropped dropped) before after is it = (id, is, it)
