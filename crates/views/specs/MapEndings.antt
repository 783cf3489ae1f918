-- What `map` prints of a world, and how it ends. Profile.
use Rattle.std.specs.Prelude.{◌≡◌, ℕ, ℤ, List, Option, Result, Ok, Err}
use Rattle.sqlite.specs.Store.{Ghosts}
use Rattle.world.specs.Worlds.{Seen}
use Rattle.command_words.specs.Failures.{of_fault}
use Rattle.command_words.specs.declared.statuses.Outcome.TheVariants.{Stopped}
use Rattle.command_folder.specs.Endings.{done, failed}
use Rattle.command_folder.specs.declared.endings.Ending.TheVariants as usual
use Rattle.view_world.specs.Looks.{LeavesOpen}
use Rattle.views.specs.Printed.{IsPrinted, IsUntouched, LeavesUnprinted}
use Rattle.views.specs.declared.endings.Ending.{Ending}
use Rattle.views.specs.declared.endings.Ending.TheVariants as ending
use Rattle.views.specs.declared.printing.MapFault.{MapFault}
use Rattle.views.specs.declared.printing.MapFault.TheVariants.{NoSuchZoom, Failed, Unwritten}

-- how the program ends after a map
abbrev pub map_ending : Result (Unit {0}) MapFault → Ending
map_ending (Ok x) = ending.Usual done
map_ending (Err NoSuchZoom) = ending.NoSuchZoom
map_ending (Err (Failed fault)) = ending.Usual (usual.Usual (Stopped (of_fault fault)))
map_ending (Err Unwritten) = ending.Usual failed

module _ {S : Type 0} (g : Ghosts S) where
  -- The map of a world was printed, which was only read, if at all; and the program ends so.
  pub record EndsMap {W : Type 0} (asked : Option ℤ) (old new : Seen S) (writer writer' : W)
      (before after : Option (List ℕ)) (is : Ending) : Type 0 where
    pub outcome : Result (Unit {0}) MapFault
    pub ends : is ≡ map_ending outcome
    pub read : IsUntouched g old new
    pub opens : LeavesOpen g old new outcome
    pub printed : IsPrinted g asked old new before after outcome
    pub unprinted : LeavesUnprinted writer writer' outcome
