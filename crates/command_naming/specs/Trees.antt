-- What is made of a world by adding the tiles of a tree to the package that a word names. Profile.
use Rattle.std.specs.Prelude.{◌≡◌, ℕ, List, Option, Result, Ok, Err}
use Rattle.sqlite.specs.Store.{Ghosts}
use Rattle.sheet_types.specs.World.{World, holdings}
use Rattle.sheet_types.specs.declared.command.Item.{Item}
use Rattle.world_members.specs.Members.{AllClean}
use Rattle.world.specs.Worlds.{Seen, StandsFor}
use Rattle.command_names.specs.declared.searching.Found.{Found}
use Rattle.command_requests.specs.Listing.{IsUntouched}
use Rattle.command_searches.specs.Searches.{IsPackageFound}
use Rattle.command_trees.specs.Adding.{AddsFiles, Work}
use Rattle.command_trees.specs.declared.adding.AddFault.{AddFault}
use Rattle.command_trees.specs.declared.adding.Counts.{Counts}
use Rattle.command_trees.specs.declared.adding.Target.{Target}
use Rattle.command_verbs.specs.declared.areas.Place.{Place}
use Rattle.command_naming.specs.Naming.{named}
use Rattle.command_naming.specs.declared.trees.TreeOutcome.{TreeOutcome}
use Rattle.command_naming.specs.declared.trees.TreeOutcome.TheVariants.{Unnamed, Added}
use Rattle.command_naming.specs.declared.trees.TreeWords.{TreeWords}

abbrev pub target_of : TreeWords → List ℕ → Target
target_of words p = record { «package» = p; at = words.at; is_upward = words.is_upward }

module _ {S N F : Type 0} (g : Ghosts S) (Gives : Option (List ℕ) → N → N → Type 0)
    (Reads : Place → Option (List ℕ) → F → F → Type 0) where
  -- The items of the package were read, and files were added beside them, each tile with the bytes of its own file.
  pub record AddsBeside (t : Target) (files : List Place) (old new : Work S N F) (counts : Counts)
      (outcome : Result Unit AddFault) : Type 0 where
    pub items : List Item
    pub read : Seen S
    pub untouched : IsUntouched g old.world read
    pub held : AllClean g read.members → (w : World) → StandsFor g old.world w
        → items ≡ (holdings w t.«package»).items
    pub added : AddsFiles g Gives Reads t items files
        (record { world = read; ids = old.ids; sheets = old.sheets }) new counts outcome

  -- The word names none of what was found; or it names this package.
  abbrev pub AddsFound : TreeWords → Found → List Place → Work S N F → Work S N F → TreeOutcome → Type 0
  AddsFound words found files old new (Unnamed fault told) =
      (named words.«package».now found ≡ Err fault) × (told ≡ found) × (new.world ≡ old.world)
  AddsFound words found files old new (Added counts outcome) =
      (p : List ℕ) × (named words.«package».now found ≡ Ok p)
      × AddsBeside (target_of words p) files old new counts outcome

  -- So much is found for the word in each world that the value stood for, and that came of it.
  pub record AddsNamed (words : TreeWords) (files : List Place) (old new : Work S N F) (outcome : TreeOutcome) :
      Type 0 where
    pub found : Found
    pub told : (w : World) → StandsFor g old.world w → IsPackageFound w words.«package».now found
    pub made : AddsFound words found files old new outcome
