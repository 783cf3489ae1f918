-- What is printed of what was found, and how the program ends then. Profile.
use Rattle.std.specs.Prelude.{◌≡◌, ◌⊎◌, ℕ, List, Option, Some, None, option_map, Result, Ok, Err}
use Rattle.std.specs.Io.KnownBytes.{Appends}
use Rattle.manifest_csv.specs.Sent.{WentOut}
use Rattle.package_tables.specs.declared.fault.Fault.{Fault}
use Rattle.command_words.specs.Failures.{of_fault}
use Rattle.command_words.specs.declared.statuses.Outcome.TheVariants.{Stopped}
use Rattle.command_folder.specs.Endings.{done, failed}
use Rattle.command_folder.specs.declared.endings.Ending.TheVariants as usual
use Rattle.views.specs.declared.endings.Ending.{Ending}
use Rattle.views.specs.declared.endings.Ending.TheVariants.{Usual}

-- memory or a store gave out before anything was printed
abbrev pub stopped : Fault → Ending
stopped fault = Usual (usual.Usual (Stopped (of_fault fault)))

-- A text went out whole and all is done; or the writer failed, and a beginning of the text went out.
abbrev pub PrintsAll : List ℕ → Option (List ℕ) → Option (List ℕ) → Ending → Type 0
PrintsAll text before after ending = ((ending ≡ Usual done) × Appends before after text)
    ⊎ ((ending ≡ Usual failed) × WentOut before after text)

-- what was found, as a text
abbrev pub told : {T : Type 0} → (T → List ℕ) → Result T Fault → Result (List ℕ) Fault
told bytes (Ok text) = Ok (bytes text)
told bytes (Err fault) = Err fault

abbrev pub told_if : {T : Type 0} → (T → List ℕ) → Result (Option T) Fault → Result (Option (List ℕ)) Fault
told_if bytes (Ok found) = Ok (option_map bytes found)
told_if bytes (Err fault) = Err fault

-- A text that was found is printed. Where there is none, nothing is, and the program ends so.
abbrev pub Shows : {W : Type 0} → Result (Option (List ℕ)) Fault → Ending → W → W → Option (List ℕ)
    → Option (List ℕ)
    → Ending → Type 0
Shows (Ok (Some text)) none writer writer' before after ending = PrintsAll text before after ending
Shows (Ok None) none writer writer' before after ending = (ending ≡ none) × (writer' ≡ writer)
Shows (Err fault) none writer writer' before after ending = (ending ≡ stopped fault) × (writer' ≡ writer)

-- The same of a text that is always there.
abbrev pub ShowsText : {W : Type 0} → Result (List ℕ) Fault → W → W → Option (List ℕ)
    → Option (List ℕ) → Ending
    → Type 0
ShowsText (Ok text) writer writer' before after ending = PrintsAll text before after ending
ShowsText (Err fault) writer writer' before after ending = (ending ≡ stopped fault) × (writer' ≡ writer)
