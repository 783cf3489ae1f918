-- How a fault of stores is told: with the number of the receipt that names what is at fault, where it is known.
-- Profile.
use Rattle.std.specs.Prelude.{◌≡◌, ℕ, List, Some, slice_get, slice_set}
use Rattle.std.specs.List.{AllZip}
use Rattle.sqlite.specs.Held.{Held}
use Rattle.sqlite.specs.Store.{Ghosts}
use Rattle.opening_faults.specs.declared.faults.RecoverFault.{RecoverFault}
use Rattle.opening_faults.specs.declared.sights.Sight.{Sight}
use Rattle.opening_numbers.specs.Numbers.{IsGreatest, Names}
use Rattle.command_folder.specs.Choosing.{IsGlancedAt}
use Rattle.command_folder.specs.declared.endings.OpenFault.{OpenFault}
use Rattle.command_folder.specs.declared.endings.OpenFault.TheVariants.{Folder, Fault, Numbered}

module _ {S : Type 0} (g : Ghosts S) where
  -- the store was only read, and this was rightly seen of it
  abbrev pub IsSeenOf : Held S → Sight → Type 0
  IsSeenOf h sight = (new : Held S) × IsGlancedAt g h new sight

  -- The store at a place was only read, this was rightly seen of it, and all else is as it was.
  pub record IsLookAt (old new : List (Held S)) (at : ℕ) (sight : Sight) : Type 0 where
    pub was : Held S
    pub place : slice_get old at ≡ Some was
    pub last : Held S
    pub others : new ≡ slice_set old at last
    pub seen : IsGlancedAt g was last sight

  -- By what was rightly seen of these stores it is the greatest number of a receipt that names what the fault is of.
  abbrev pub IsNumberOf : List (Held S) → RecoverFault → ℕ → Type 0
  IsNumberOf stores fault n =
      (sights : List Sight) × AllZip IsSeenOf stores sights × IsGreatest (Names sights fault) (Some n)

  -- The fault is told, and a number is one of a receipt of these stores.
  abbrev pub Tells : List (Held S) → RecoverFault → OpenFault → Type 0
  Tells stores fault (Folder met) = ⊥
  Tells stores fault (Fault met) = met ≡ fault
  Tells stores fault (Numbered met n) = (met ≡ fault) × IsNumberOf stores fault n
