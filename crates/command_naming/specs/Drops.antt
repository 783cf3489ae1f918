-- What is made of a world by dropping the item that a word names. Profile.
use Rattle.std.specs.Prelude.{◌≡◌, ◌==◌, ◌||◌, ℕ, Bool, true, false, List, length, map, Option, Result, Ok, Err}
use Rattle.sqlite.specs.Store.{Ghosts}
use Rattle.sheet_types.specs.World.{World}
use Rattle.world_members.specs.Members.{AllClean}
use Rattle.world.specs.Worlds.{Seen, StandsFor}
use Rattle.command_names.specs.declared.searching.Found.{Found}
use Rattle.command_plans.specs.Drops.{drop_commands}
use Rattle.command_plans.specs.Requests.{AreRequestsFor, GivesEach, id_of}
use Rattle.command_requests.specs.Listing.{IsUntouched}
use Rattle.command_searches.specs.Searches.{IsItemFound}
use Rattle.command_drops.specs.Dropping.{IsDropped}
use Rattle.command_drops.specs.Holding.{IsHolder}
use Rattle.command_drops.specs.declared.holding.Holding.{Holding}
use Rattle.command_naming.specs.Naming.{named}
use Rattle.command_naming.specs.declared.drops.DropOutcome.{DropOutcome}
use Rattle.command_naming.specs.declared.drops.DropOutcome.TheVariants.{Unnamed, Linked, Planned, Dropped}
use Rattle.command_naming.specs.declared.drops.Dropping.{Dropping}

-- It has no links, or they may be ended.
abbrev pub may_drop : Dropping → Holding → Bool
may_drop d h = d.ends_links || (length h.links.items == 0)

module _ {S : Type 0} (g : Ghosts S) {N : Type 0} (Gives : Option (List ℕ) → N → N → Type 0) where
  -- An item that is held so stays for its links; or its requests are told, and the world stays; or they were carried
  -- out. Each request has the identity of a call of its own. The shelf had failed so often before and after.
  abbrev pub DropsHeld : Dropping → List ℕ → Holding → Seen S → Seen S → N → N → DropOutcome → ℕ → ℕ
      → Type 0
  DropsHeld d id h old new ids ids' (Linked links) before after =
      (may_drop d h ≡ false) × (links.items ≡ h.links.items) × (new ≡ old)
  DropsHeld d id h old new ids ids' (Planned requests) before after =
      (may_drop d h ≡ true) × (d.is_shown ≡ true)
      × AreRequestsFor d.at.now (drop_commands h.holder id h.links.items) requests.items
      × GivesEach Gives (map id_of requests.items) ids ids' × (new ≡ old)
  DropsHeld d id h old new ids ids' (Dropped dropped) before after =
      (may_drop d h ≡ true) × (d.is_shown ≡ false)
      × IsDropped g Gives d.at.now id h old new ids ids' dropped before after
  DropsHeld d id h old new ids ids' (Unnamed fault found) before after = ⊥

  -- The world was read, so is the item held in each world that the value stood for, and that came of it.
  pub record DropsItem (d : Dropping) (id : List ℕ) (old new : Seen S) (ids ids' : N) (outcome : DropOutcome)
      (before after : ℕ) : Type 0 where
    pub holding : Holding
    pub read : Seen S
    pub untouched : IsUntouched g old read
    pub held : AllClean g read.members → (w : World) → StandsFor g old w → IsHolder w id holding
    pub made : DropsHeld d id holding read new ids ids' outcome before after

  -- The word names none of what was found; or it names this item.
  abbrev pub DropsFound : Dropping → Found → Seen S → Seen S → N → N → DropOutcome → ℕ → ℕ → Type 0
  DropsFound d found old new ids ids' (Unnamed fault told) before after =
      (named d.word.now found ≡ Err fault) × (told ≡ found) × (new ≡ old)
  DropsFound d found old new ids ids' outcome before after =
      (id : List ℕ) × (named d.word.now found ≡ Ok id) × DropsItem d id old new ids ids' outcome before after

  -- The world was read, so much is found for the word in each world that the value stood for, and that came of it.
  pub record DropsNamed (d : Dropping) (old new : Seen S) (ids ids' : N) (outcome : DropOutcome) (before after : ℕ) :
      Type 0 where
    pub found : Found
    pub read : Seen S
    pub untouched : IsUntouched g old read
    pub told : AllClean g read.members → (w : World) → StandsFor g old w → IsItemFound w d.word.now found
    pub made : DropsFound d found read new ids ids' outcome before after
