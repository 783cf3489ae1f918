-- What is made of a world by the words of a verb, and told beside. Profile.
use Rattle.std.specs.Prelude.{◌≡◌, ◌⊎◌, ℕ, List, Option, None}
use Rattle.sqlite.specs.Held.{Held}
use Rattle.sqlite.specs.Store.{Ghosts}
use Rattle.sheet_types.specs.World.{World}
use Rattle.world_members.specs.Members.{AllClean}
use Rattle.world.specs.Worlds.{Seen, StandsFor, held}
use Rattle.command_folder.specs.declared.endings.Ending.{Ending}
use Rattle.command_names.specs.declared.hints.Hint.{Hint}
use Rattle.command_requests.specs.Listing.{IsUntouched}
use Rattle.command_requests.specs.declared.orders.Order.{Order}
use Rattle.command_searches.specs.Hints.{IsVerbHint}
use Rattle.command_ordering.specs.Orders.{Orders}
use Rattle.command_ordering.specs.declared.orders.Purpose.{Purpose}
use Rattle.command_ordering.specs.Folders.{OpensHinting}

module _ {S : Type 0} (g : Ghosts S) (text : Option (List ℕ)) (o : Order) (purpose : Purpose) where
  -- An order was done; then the world was read, if at all, and what comes nearest to a word of the
  -- verb is told, or nothing.
  pub record HintsOrder {W : Type 0} (old new : Seen S) (writer writer' : W) (before after : Option (List ℕ))
      (ending : Ending) (hint : Option Hint) : Type 0 where
    pub mid : Seen S
    pub ordered : Orders g writer writer' before after text o purpose old mid ending
    pub read : IsUntouched g mid new
    pub told : AllClean g new.members → (w : World) → StandsFor g mid w → (hint ≡ None)
        ⊎ IsVerbHint w o.verb hint

  -- The same of a world that ended with it, and of which these stores are left.
  abbrev pub EndsHinted : {W : Type 0} → Seen S → List (Held S) → W → W → Option (List ℕ)
      → Option (List ℕ)
      → Ending → Option Hint → Type 0
  EndsHinted old stores writer writer' before after ending hint =
      (new : Seen S) × (stores ≡ held g new) × HintsOrder old new writer writer' before after ending hint

  abbrev pub OrdersHinted : {W : Type 0} → W → W → Option (List ℕ) → Option (List ℕ) → Ending
      → Option Hint → Type 0
  OrdersHinted writer writer' before after ending hint =
      OpensHinting g (λ old new. HintsOrder old new writer writer' before after ending hint) writer writer' ending hint
