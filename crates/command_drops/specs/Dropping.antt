-- What is made of a world by dropping an item. Profile.
use Rattle.std.specs.Prelude.{ℕ, List, Option, map}
use Rattle.sqlite.specs.Store.{Ghosts}
use Rattle.world.specs.Worlds.{IsRun, Seen}
use Rattle.command_plans.specs.Drops.{drop_commands}
use Rattle.command_plans.specs.Requests.{AreRequestsFor, GivesEach, id_of}
use Rattle.command_drops.specs.declared.dropping.Dropped.{Dropped}
use Rattle.command_drops.specs.declared.holding.Holding.{Holding}

module _ {S : Type 0} (g : Ghosts S) {N : Type 0} (Gives : Option (List ℕ) → N → N → Type 0) where
  -- At this moment each of its links was asked to end, and then the item to be deleted, and these requests were
  -- carried out one after the other. Each has the identity of a call of its own. The shelf had failed so often before
  -- and after.
  pub record IsDropped (at id : List ℕ) (h : Holding) (old new : Seen S) (ids ids' : N) (dropped : Dropped)
      (before after : ℕ) : Type 0 where
    pub asked : AreRequestsFor at (drop_commands h.holder id h.links.items) dropped.requests.items
    pub given : GivesEach Gives (map id_of dropped.requests.items) ids ids'
    pub ran : IsRun g dropped.requests.items old dropped.replies.items new before after
