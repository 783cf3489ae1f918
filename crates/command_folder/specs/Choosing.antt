-- Which packages of a folder are opened together, and what is seen of the others. Profile.
use Rattle.std.specs.Prelude.{◌≡◌, ◌⊎◌, ◌+◌, ℕ, List, All, Ok, length}
use Rattle.std.specs.List.{AllZip}
use Rattle.sqlite.specs.Held.{Held, state}
use Rattle.sqlite.specs.Store.{Ghosts}
use Rattle.package_schema.specs.Looking.{LooksAt}
use Rattle.package_tables.specs.declared.fault.Fault.{Fault}
use Rattle.store_folder.specs.Opened.{IsJustOpened}
use Rattle.opening_faults.specs.declared.sights.Sight.{Sight}
use Rattle.opening_live.specs.Chosen.{live_packages}
use Rattle.opening_glances.specs.Glances.{IsGlanceOf}
use Rattle.command_folder.specs.declared.choosing.Chosen.{Chosen}

module _ {S : Type 0} (g : Ghosts S) where
  abbrev pub AreJustOpened : List (Held S) → Type 0
  AreJustOpened stores = All (λ h. IsJustOpened (state g h)) stores

  -- The store was only read, and this was rightly seen of it.
  abbrev pub IsGlancedAt : Held S → Held S → Sight → Type 0
  IsGlancedAt old new sight = LooksAt {E = Fault} IsGlanceOf (state g old) (state g new) (Ok sight)

  -- so of some store that was just opened
  abbrev pub IsGlanced : Sight → Type 0
  IsGlanced sight = (old new : Held S) × IsJustOpened (state g old) × IsGlancedAt old new sight

-- All packages are opened; or this was shown of the store of each, and those that live by it are.
abbrev pub IsChosen : (List ℕ → Sight → Type 0) → List (List ℕ) → Chosen → Type 0
IsChosen shown packages chosen =
    ((chosen.packages.items ≡ packages) × (chosen.left ≡ 0))
    ⊎ ((sights : List Sight) × AllZip shown packages sights ×
    (chosen.packages.items ≡ live_packages sights packages)
    × (length chosen.packages.items + chosen.left ≡ length packages))
