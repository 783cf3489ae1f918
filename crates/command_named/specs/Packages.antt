-- What is printed of the package that a word names. Profile.
use Rattle.std.specs.Prelude.{◌≡◌, ℕ, List, Option, None, Result, Ok, Err, IfOk}
use Rattle.std.specs.Borrow.{Bor}
use Rattle.sqlite.specs.Held.{Held}
use Rattle.sqlite.specs.Store.{Ghosts}
use Rattle.package_tables.specs.declared.fault.Fault.{Fault}
use Rattle.sheet_types.specs.World.{World}
use Rattle.world.specs.Worlds.{Seen, StandsFor, held}
use Rattle.command_folder.specs.declared.endings.Ending.TheVariants.{NoSuchPackage}
use Rattle.command_names.specs.declared.hints.Hint.{Hint}
use Rattle.command_names.specs.declared.hints.Whose.TheVariants as whose
use Rattle.command_names.specs.declared.searching.Found.{Found}
use Rattle.command_names.specs.declared.searching.Found.TheVariants as found
use Rattle.command_searches.specs.Hints.{hint_of}
use Rattle.command_searches.specs.Searches.{IsPackageFound}
use Rattle.command_verbs.specs.Faults.{verb_line}
use Rattle.command_verbs.specs.declared.names.NameFault.TheVariants.{Two}
use Rattle.command_verbs.specs.declared.verbs.VerbFault.TheVariants.{Unnamed}
use Rattle.views.specs.Looks.{Looked}
use Rattle.views.specs.Showing.{stopped}
use Rattle.views.specs.declared.endings.Ending.{Ending}
use Rattle.views.specs.declared.endings.Ending.TheVariants.{Usual}
use Rattle.views.specs.declared.looking.Look.{Look}
use Rattle.views.specs.declared.looking.Look.TheVariants as look
use Rattle.command_named.specs.Telling.{TellsLine}
use Rattle.command_named.specs.declared.packages.PackageLook.{PackageLook}
use Rattle.command_named.specs.declared.packages.PackageLook.TheVariants.{Manifest, Export}

abbrev pub look_of : PackageLook → List ℕ → Look
look_of Manifest id = look.Manifest id
look_of Export id = look.Export id

module _ {S : Type 0} (g : Ghosts S) (what : PackageLook) (word : Bor (List ℕ)) (old : Seen S)
    (stores : List (Held S)) where
  -- The one that was found is looked at; of two both are told; of none it is told that there is
  -- none, and what comes nearest.
  abbrev pub ShowsFound : {W : Type 0} → Result Found Fault → W → W → Option (List ℕ) → Option (List ℕ)
      → Ending → Option Hint → Type 0
  ShowsFound (Ok (found.One id)) writer writer' before after ending hint =
      Looked g 0 old stores writer writer' before after (look_of what id) ending × (hint ≡ None)
  ShowsFound (Ok (found.Two one other)) writer writer' before after ending hint =
      TellsLine writer writer' before after (verb_line (Unnamed (Two one other))) ending
      × (stores ≡ held g old) × (hint ≡ None)
  ShowsFound (Ok (found.Nearest nearest)) writer writer' before after ending hint =
      (ending ≡ Usual NoSuchPackage) × (writer' ≡ writer) × (stores ≡ held g old)
      × (hint ≡ hint_of whose.Package word (found.Nearest nearest))
  ShowsFound (Err fault) writer writer' before after ending hint =
      (ending ≡ stopped fault) × (writer' ≡ writer) × (stores ≡ held g old) × (hint ≡ None)

  -- So much is found for the word in each world that the value stood for, and that is printed of it.
  pub record ShowsPackage {W : Type 0} (writer writer' : W) (before after : Option (List ℕ)) (ending : Ending)
      (hint : Option Hint) : Type 0 where
    pub search : Result Found Fault
    pub told : IfOk search (λ f. (w : World) → StandsFor g old w → IsPackageFound w word.now f)
    pub shown : ShowsFound search writer writer' before after ending hint
