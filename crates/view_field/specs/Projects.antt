-- The QGIS project of an export, printed of a world and of a folder, and how the program ends. Profile.
use Rattle.std.specs.Prelude.{◌≡◌, ◌⊎◌, ℕ, true, false, List, Option, Some, None}
use Rattle.uuid.specs.Text.{parsed_hyphenated}
use Rattle.sqlite.specs.Store.{Ghosts}
use Rattle.sheet_types.specs.World.{World, is_live}
use Rattle.command_words.specs.declared.statuses.Outcome.TheVariants.{Refused}
use Rattle.command_words.specs.declared.statuses.What.TheVariants.{BadUuid}
use Rattle.command_folder.specs.Endings.{done, no_memory}
use Rattle.command_folder.specs.Folders.{IsFolderWorld}
use Rattle.command_folder.specs.Printing.{Prints}
use Rattle.command_folder.specs.declared.endings.Ending.{Ending}
use Rattle.command_folder.specs.declared.endings.Ending.TheVariants.{NoSuchPackage, Unopened, Usual}
use Rattle.command_folder.specs.declared.endings.OpenFault.{OpenFault}
use Rattle.view_project.specs.Projects.{project}
use Rattle.world.specs.Worlds.{Seen, StandsFor}

module _ {W : Type 0} (writer writer' : W) (before after : Option (List ℕ)) where
  -- A text is printed, if at all; or memory was wanting, and nothing is.
  abbrev pub Writes : List ℕ → Ending → Type 0
  Writes text ending = Prints text done before after ending ⊎ ((ending ≡ no_memory) × (writer' ≡ writer))

  -- The project is that of the world's frame. Of a package that is not live nothing is printed.
  abbrev pub PrintsProject : World → List ℕ → List ℕ → Ending → Type 0
  PrintsProject w p name ending =
      ((is_live w p ≡ true) × Writes (project w.frame name) ending)
      ⊎ ((is_live w p ≡ false) × (ending ≡ NoSuchPackage) × (writer' ≡ writer))

module _ {S : Type 0} (g : Ghosts S) {W : Type 0} where
  -- the same of each world that a value stands for
  abbrev pub EndsProject : List ℕ → List ℕ → Seen S → W → W → Option (List ℕ) → Option (List ℕ)
      → Ending
      → Type 0
  EndsProject p name old writer writer' before after ending =
      (w : World) → StandsFor g old w → PrintsProject writer writer' before after w p name ending

  -- The folder was not opened, and nothing was printed; or its world was.
  abbrev pub OpensProject : List ℕ → List ℕ → W → W → Option (List ℕ) → Option (List ℕ) → Ending
      → Type 0
  OpensProject p name writer writer' before after ending =
      ((fault : OpenFault) × (ending ≡ Unopened fault) × (writer' ≡ writer))
      ⊎ ((old : Seen S) × IsFolderWorld g old × EndsProject p name old writer writer' before after ending)

  -- The word is no UUID, and nothing was opened; or it is that of a package.
  abbrev pub AsksProject : List ℕ → List ℕ → W → W → Option (List ℕ) → Option (List ℕ) → Ending
      → Type 0
  AsksProject word name writer writer' before after ending =
      ((parsed_hyphenated word ≡ None) × (ending ≡ Usual (Refused BadUuid)) × (writer' ≡ writer))
      ⊎ ((p : List ℕ) × (parsed_hyphenated word ≡ Some p) × OpensProject p name writer writer' before after
      ending)
