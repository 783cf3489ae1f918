-- Which package of a folder a word names, and what is told where it names none. Profile.
use Rattle.std.specs.Prelude.{◌≡◌, ◌⊎◌, ℕ, List, Option, None, Result, Ok, Err, IfOk}
use Rattle.std.specs.Borrow.{Bor}
use Rattle.sqlite.specs.Store.{Ghosts}
use Rattle.package_tables.specs.declared.fault.Fault.{Fault}
use Rattle.sheet_types.specs.World.{World}
use Rattle.world.specs.Worlds.{Seen, StandsFor}
use Rattle.command_folder.specs.Folders.{IsFolderWorld}
use Rattle.command_folder.specs.declared.endings.Ending.{Ending}
use Rattle.command_folder.specs.declared.endings.Ending.TheVariants.{NoRequest, NoSuchPackage, Unopened}
use Rattle.command_folder.specs.declared.endings.OpenFault.{OpenFault}
use Rattle.command_names.specs.declared.hints.Hint.{Hint}
use Rattle.command_names.specs.declared.hints.Whose.TheVariants.{Package}
use Rattle.command_names.specs.declared.searching.Found.{Found}
use Rattle.command_names.specs.declared.searching.Found.TheVariants as found
use Rattle.command_searches.specs.Hints.{hint_of}
use Rattle.command_searches.specs.Searches.{IsPackageFound}
use Rattle.command_verbs.specs.Faults.{verb_line}
use Rattle.command_verbs.specs.declared.names.NameFault.TheVariants.{Two}
use Rattle.command_verbs.specs.declared.verbs.VerbFault.TheVariants.{Unnamed}
use Rattle.command_ordering.specs.Orders.{PrintsLine}
use Rattle.command_ordering.specs.Telling.{stopped}

module _ {W : Type 0} (writer writer' : W) (before after : Option (List ℕ)) (word : Bor (List ℕ)) where
  -- The one that was found is answered; of two both are told; of none what comes nearest.
  abbrev pub TellsName : Result Found Fault → Result (List ℕ) Ending → Option Hint → Type 0
  TellsName (Ok (found.One id)) named hint = (named ≡ Ok id) × (hint ≡ None) × (writer' ≡ writer)
  TellsName (Ok (found.Two one other)) named hint =
      (told : Ending) × (named ≡ Err told) × (hint ≡ None)
      × PrintsLine writer writer' before after (verb_line (Unnamed (Two one other))) NoRequest told
  TellsName (Ok (found.Nearest nearest)) named hint =
      (named ≡ Err NoSuchPackage) × (hint ≡ hint_of Package word (found.Nearest nearest)) × (writer' ≡ writer)
  TellsName (Err fault) named hint = (named ≡ Err (stopped fault)) × (hint ≡ None) × (writer' ≡ writer)

module _ {S : Type 0} (g : Ghosts S) (word : Bor (List ℕ)) where
  -- So much is found for the word in each world that the value stands for.
  pub record NamesPackage {W : Type 0} (seen : Seen S) (writer writer' : W) (before after : Option (List ℕ))
      (named : Result (List ℕ) Ending) (hint : Option Hint) : Type 0 where
    pub search : Result Found Fault
    pub told : IfOk search (λ f. (w : World) → StandsFor g seen w → IsPackageFound w word.now f)
    pub tells : TellsName writer writer' before after word search named hint

  -- The folder was not opened, and nothing was written or told; or its world was, and this package is named in it.
  abbrev pub NamesFor : {W : Type 0} → W → W → Option (List ℕ) → Option (List ℕ)
      → Result (List ℕ) Ending → Option Hint → Type 0
  NamesFor writer writer' before after named hint =
      ((fault : OpenFault) × (named ≡ Err (Unopened fault)) × (hint ≡ None) × (writer' ≡ writer))
      ⊎ ((seen : Seen S) × IsFolderWorld g seen × NamesPackage seen writer writer' before after named hint)
