-- What is printed of the item that a word names, and told beside. Profile.
use Rattle.std.specs.Prelude.{◌≡◌, ◌⊎◌, ℕ, List, Option, None}
use Rattle.std.specs.Borrow.{Bor}
use Rattle.sqlite.specs.Held.{Held}
use Rattle.sqlite.specs.Store.{Ghosts}
use Rattle.sheet_types.specs.World.{World}
use Rattle.world_members.specs.Members.{AllClean}
use Rattle.world.specs.Worlds.{Seen, StandsFor, held}
use Rattle.command_names.specs.declared.hints.Hint.{Hint}
use Rattle.command_names.specs.declared.hints.Whose.TheVariants as whose
use Rattle.command_requests.specs.Listing.{IsUntouched}
use Rattle.command_searches.specs.Hints.{IsHintOf}
use Rattle.views.specs.Contents.{Gets}
use Rattle.views.specs.declared.endings.Ending.{Ending}

module _ {S : Type 0} (g : Ghosts S) (word : Bor (List ℕ)) where
  -- What the word names was printed; then the world was read, if at all, and what comes nearest to
  -- the word is told, or nothing.
  pub record ShowsItem {W : Type 0} (old : Seen S) (stores : List (Held S)) (writer writer' : W)
      (before after : Option (List ℕ)) (ending : Ending) (hint : Option Hint) : Type 0 where
    pub mid : Seen S
    pub gets : Gets g word.now old mid writer writer' before after ending
    pub last : Seen S
    pub left : stores ≡ held g last
    pub read : IsUntouched g mid last
    pub told : AllClean g last.members → (w : World) → StandsFor g mid w
        → (hint ≡ None) ⊎ IsHintOf whose.Item w word hint

  -- The same of a world that stays.
  abbrev pub TellsItem : {W : Type 0} → Seen S → Seen S → W → W → Option (List ℕ) → Option (List ℕ)
      → Ending
      → Option Hint → Type 0
  TellsItem old new writer writer' before after ending hint =
      (mid : Seen S) × Gets g word.now old mid writer writer' before after ending × IsUntouched g mid new
      × (AllClean g new.members → (w : World) → StandsFor g mid w → (hint ≡ None)
      ⊎ IsHintOf whose.Item w word hint)
