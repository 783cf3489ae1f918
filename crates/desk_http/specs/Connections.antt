-- What connections make of a world, whatever bytes come over them and whatever fails. Profile.
use Rattle.std.specs.Prelude.{◌≡◌, ◌≤◌, ℕ, zero, suc, true, false, List, length, Result, Ok, Err}
use Rattle.sqlite.specs.Held.{Held}
use Rattle.sqlite.specs.Store.{Ghosts}
use Rattle.sheet_types.specs.World.{World}
use Rattle.sheet_types.specs.declared.command.Request.{Request}
use Rattle.sheet_types.specs.declared.receipt.Receipt.{Receipt}
use Rattle.sheet_types.specs.declared.refusal.Refusal.{Refusal}
use Rattle.world_changes.specs.Leaving.{AreClean}
use Rattle.world_members.specs.Members.{AllClean}
use Rattle.world.specs.Worlds.{RunsOverRegisters, Seen, StandsFor}
use Rattle.desk_http.specs.declared.connections.DeskFault.{DeskFault}
use Rattle.desk_http.specs.declared.connections.DeskFault.TheVariants as fault

module _ {S : Type 0} (g : Ghosts S) where
  -- Some requests, so many at most, were carried out one after the other, and nothing else changed the world: what
  -- the value stands for afterwards is what a run of them makes, where each disk has given back what was written.
  pub record IsServedBy (most : ℕ) (old new : Seen S) : Type 0 where
    pub requests : List Request
    pub few : length requests ≤ most
    pub replies : List (Result Receipt Refusal)
    -- the last states of the connections of stores that were dropped
    pub gone : List (Held S)
    pub clean : AllClean g new.members → AreClean g gone → AllClean g old.members
    pub run : AllClean g new.members → AreClean g gone → (w : World) → StandsFor g old w
        → (next : World) × RunsOverRegisters w requests replies next × StandsFor g new next

  -- So many connections were served one after the other, each over a world that could be used.
  abbrev pub AreServed : ℕ → Seen S → Seen S → Type 0
  AreServed zero old new = new ≡ old
  AreServed (suc n) old new = (mid : Seen S) × AreServed n old mid × (mid.has_failed ≡ false)
      × IsServedBy 1 mid new

  -- How a desk ended that was to serve so many connections and served so many. It served all, and its world can be
  -- used; or its world has failed; or its listener has, and the world can be used.
  abbrev pub EndsAfter : ℕ → ℕ → Seen S → Result (Unit {0}) DeskFault → Type 0
  EndsAfter most served new (Ok x) = (served ≡ most) × (new.has_failed ≡ false)
  EndsAfter most served new (Err fault.World) = new.has_failed ≡ true
  EndsAfter most served new (Err fault.Listener) = new.has_failed ≡ false

  -- What a desk made of a world that was to serve so many connections, and how it ended. Once the world has failed
  -- nobody is served.
  pub record Serves (most : ℕ) (old new : Seen S) (end : Result (Unit {0}) DeskFault) : Type 0 where
    pub served : ℕ
    pub few : served ≤ most
    pub each : AreServed served old new
    pub ends : EndsAfter most served new end
