-- What is made of a folder, and told beside. Profile.
use Rattle.std.specs.Prelude.{◌≡◌, ◌⊎◌, Option, None}
use Rattle.sqlite.specs.Store.{Ghosts}
use Rattle.world.specs.Worlds.{Seen}
use Rattle.command_folder.specs.Folders.{IsFolderWorld}
use Rattle.command_folder.specs.declared.endings.Ending.{Ending}
use Rattle.command_folder.specs.declared.endings.Ending.TheVariants.{Unopened}
use Rattle.command_folder.specs.declared.endings.OpenFault.{OpenFault}
use Rattle.command_names.specs.declared.hints.Hint.{Hint}

module _ {S : Type 0} (g : Ghosts S) where
  -- The folder was not opened, and nothing was written or told; or its world was, and this was made of it.
  abbrev pub OpensHinting : {W : Type 0} → (Seen S → Seen S → Type 0) → W → W → Ending → Option Hint
      → Type 0
  OpensHinting Makes writer writer' ending hint =
      ((fault : OpenFault) × (ending ≡ Unopened fault) × (hint ≡ None) × (writer' ≡ writer))
      ⊎ ((old new : Seen S) × IsFolderWorld g old × Makes old new)
