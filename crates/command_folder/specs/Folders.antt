-- A folder of packages, opened. Profile.
use Rattle.std.specs.Prelude.{◌≡◌, ◌⊎◌, ◌+◌, ℕ, List, length}
use Rattle.sqlite.specs.Held.{Held}
use Rattle.sqlite.specs.Store.{Ghosts}
use Rattle.world.specs.Worlds.{Seen}
use Rattle.opening.specs.Recovered.{IsRecovered, IsUnopened}
use Rattle.opening.specs.declared.recovering.Recovered.{Recovered}
use Rattle.opening.specs.declared.recovering.Unopened.{Unopened}
use Rattle.command_folder.specs.Choosing.{AreJustOpened, IsChosen, IsGlanced}
use Rattle.command_folder.specs.Numbering.{Tells}
use Rattle.command_folder.specs.declared.choosing.Chosen.{Chosen}
use Rattle.command_folder.specs.declared.endings.Ending.{Ending}
use Rattle.command_folder.specs.declared.endings.OpenFault.{OpenFault}

module _ {S : Type 0} (g : Ghosts S) where
  -- This is the world that stores came to, each just opened, and so many of them are not of it.
  pub record IsWorldOf (stores : List (Held S)) (strays : ℕ) (seen : Seen S) : Type 0 where
    pub found : Recovered S
    pub is : IsRecovered g stores found
    pub same : found.world ≡ seen
    pub beside : length found.strays.items ≡ strays

  -- So a fault is told by which stores came to no world. A number is that of a receipt of the stores as they came back.
  pub record IsFaultOfStores (stores : List (Held S)) (told : OpenFault) : Type 0 where
    pub refused : Unopened S
    pub is : IsUnopened g stores refused
    pub tells : Tells g refused.stores.items refused.fault told

  -- the world of some stores that were just opened, one of each of these packages
  abbrev pub IsWorldAt : List (List ℕ) → ℕ → Seen S → Type 0
  IsWorldAt packages strays seen =
      (stores : List (Held S)) × AreJustOpened g stores × (length stores ≡ length packages)
      × IsWorldOf stores strays seen

  -- The world of some stores that were just opened, one of each package that was chosen; those of them that are not of
  -- it and those that were left out are so many.
  pub record IsFolderBeside (strays : ℕ) (seen : Seen S) : Type 0 where
    pub packages : List (List ℕ)
    pub chosen : Chosen
    pub chosen_is : IsChosen (λ uuid sight. IsGlanced g sight) packages chosen
    pub stores : List (Held S)
    pub each : length stores ≡ length chosen.packages.items
    pub opened : AreJustOpened g stores
    pub beside : ℕ
    pub is : IsWorldOf stores beside seen
    pub all : strays ≡ beside + chosen.left

  -- the world of some stores that were just opened
  abbrev pub IsFolderWorld : Seen S → Type 0
  IsFolderWorld seen = (strays : ℕ) × IsFolderBeside strays seen

  -- The folder was not opened, the program ends with that, and nothing was written; or its world was, and this was
  -- made of it.
  abbrev pub OpensThen : {W : Type 0} → (OpenFault → Ending) → (Seen S → Seen S → Type 0) → W → W
      → Ending → Type 0
  OpensThen unopened Makes writer writer' ending =
      ((fault : OpenFault) × (ending ≡ unopened fault) × (writer' ≡ writer))
      ⊎ ((old new : Seen S) × IsFolderWorld old × Makes old new)
