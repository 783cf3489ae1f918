-- How a look by a word ends that names two. Profile.
use Rattle.std.specs.Prelude.{◌≡◌, ◌⊎◌, ℕ, List, Option}
use Rattle.command_folder.specs.Endings.{no_memory}
use Rattle.command_folder.specs.Printing.{Prints}
use Rattle.command_folder.specs.declared.endings.Ending.{Ending as CommandEnding}
use Rattle.command_folder.specs.declared.endings.Ending.TheVariants.{NoRequest}
use Rattle.views.specs.declared.endings.Ending.{Ending}
use Rattle.views.specs.declared.endings.Ending.TheVariants.{Usual}

module _ {W : Type 0} (writer writer' : W) (before after : Option (List ℕ)) where
  -- A line by which nothing is looked at; or memory is wanting for it, and nothing is written.
  abbrev pub TellsLine : List ℕ → Ending → Type 0
  TellsLine line ending =
      ((told : CommandEnding) × (ending ≡ Usual told) × Prints line NoRequest before after told)
      ⊎ ((ending ≡ Usual no_memory) × (writer' ≡ writer))
