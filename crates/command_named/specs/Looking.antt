-- What is printed of what a word names in a folder, and told beside. Profile.
use Rattle.std.specs.Prelude.{◌≡◌, ◌⊎◌, ℕ, List, Option, None}
use Rattle.sqlite.specs.Held.{Held}
use Rattle.sqlite.specs.Store.{Ghosts}
use Rattle.world.specs.Worlds.{Seen}
use Rattle.command_folder.specs.Folders.{IsFolderWorld}
use Rattle.command_folder.specs.declared.endings.Ending.TheVariants.{Unopened}
use Rattle.command_folder.specs.declared.endings.OpenFault.{OpenFault}
use Rattle.command_names.specs.declared.hints.Hint.{Hint}
use Rattle.views.specs.declared.endings.Ending.{Ending}
use Rattle.views.specs.declared.endings.Ending.TheVariants.{Usual}
use Rattle.command_named.specs.Items.{ShowsItem}
use Rattle.command_named.specs.Packages.{ShowsPackage}
use Rattle.command_named.specs.Ways.{ShowsNamed}
use Rattle.command_named.specs.declared.looking.NamedLook.{NamedLook}
use Rattle.command_named.specs.declared.looking.NamedLook.TheVariants.{Get, Explain, Manifest, Export}
use Rattle.command_named.specs.declared.packages.PackageLook.TheVariants as what

module _ {S : Type 0} (g : Ghosts S) where
  -- what the word names is printed, and these stores are left of the world
  abbrev pub NamedLooked : {W : Type 0} → Seen S → List (Held S) → W → W → Option (List ℕ)
      → Option (List ℕ)
      → NamedLook → Ending → Option Hint → Type 0
  NamedLooked old stores writer writer' before after (Get word) ending hint =
      ShowsItem g word old stores writer writer' before after ending hint
  NamedLooked old stores writer writer' before after (Explain form word) ending hint =
      ShowsNamed g form word old stores writer writer' before after ending hint
  NamedLooked old stores writer writer' before after (Manifest word) ending hint =
      ShowsPackage g what.Manifest word old stores writer writer' before after ending hint
  NamedLooked old stores writer writer' before after (Export word) ending hint =
      ShowsPackage g what.Export word old stores writer writer' before after ending hint

  -- The folder was not opened, and nothing was printed or told; or its world was, and this was made of it.
  abbrev pub OpensNamed : {W : Type 0} → NamedLook → W → W → Option (List ℕ) → Option (List ℕ)
      → Ending → Option Hint → Type 0
  OpensNamed asked writer writer' before after ending hint =
      ((fault : OpenFault) × (ending ≡ Usual (Unopened fault)) × (hint ≡ None) × (writer' ≡ writer))
      ⊎ ((old : Seen S) × (stores : List (Held S)) × IsFolderWorld g old
      × NamedLooked old stores writer writer' before after asked ending hint)
