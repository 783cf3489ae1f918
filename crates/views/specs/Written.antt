-- What is written of a package of a world as SQL. Profile.
use Rattle.std.specs.Prelude.{◌≡◌, ◌⊎◌, ◌≤◌, ℕ, true, false, List, length, take, Option, Result, Ok, Err}
use Rattle.std.specs.Io.KnownBytes.{Appends}
use Rattle.sqlite.specs.Store.{Ghosts}
use Rattle.sheet_types.specs.Custody.{ticket}
use Rattle.sheet_types.specs.World.{World, is_live, holdings}
use Rattle.world_members.specs.Members.{AllClean}
use Rattle.world.specs.Worlds.{Seen, StandsFor}
use Rattle.manifest_csv.specs.Sent.{WentOut}
use Rattle.manifest_csv.specs.declared.package_manifests.ManifestFault.{ManifestFault}
use Rattle.manifest_csv.specs.declared.package_manifests.ManifestFault.TheVariants.{Unknown, Failed, Unwritten}
use Rattle.view_export.specs.Exports.{export_text}

-- a beginning of the text went out, or all of it
abbrev pub Began : Option (List ℕ) → Option (List ℕ) → List ℕ → Type 0
Began old new text = (n : ℕ) × (n ≤ length text) × Appends old new (take n text)

-- the SQL of a package and its ticket: of its items, and then of its links
abbrev pub export : World → List ℕ → List ℕ
export w p = export_text w.frame p (ticket w p) (holdings w p).items (holdings w p).links

-- A live package's SQL is written whole, or a beginning of it where memory, a store or the writer gave out. Of another
-- package nothing is written.
abbrev pub WritesExport : World → List ℕ → Option (List ℕ) → Option (List ℕ)
    → Result (Unit {0}) ManifestFault → Type 0
WritesExport w p before after (Ok x) = (is_live w p ≡ true) × Appends before after (export w p)
WritesExport w p before after (Err Unknown) = is_live w p ≡ false
WritesExport w p before after (Err (Failed fault)) =
    (after ≡ before) ⊎ ((is_live w p ≡ true) × WentOut before after (export w p))
WritesExport w p before after (Err Unwritten) = (is_live w p ≡ true) × WentOut before after (export w p)

-- It is no end of a package that is not live.
abbrev pub IsOfLive : Result (Unit {0}) ManifestFault → Type 0
IsOfLive (Ok x) = Unit {0}
IsOfLive (Err Unknown) = ⊥
IsOfLive (Err (Failed fault)) = Unit {0}
IsOfLive (Err Unwritten) = Unit {0}

-- Nothing is written of a package that is not live.
abbrev pub LeavesUnknown : {W : Type 0} → W → W → Result (Unit {0}) ManifestFault → Type 0
LeavesUnknown old new (Ok x) = Unit {0}
LeavesUnknown old new (Err Unknown) = new ≡ old
LeavesUnknown old new (Err (Failed fault)) = Unit {0}
LeavesUnknown old new (Err Unwritten) = Unit {0}

module _ {S : Type 0} (g : Ghosts S) (p : List ℕ) (old new : Seen S) where
  -- The same of each world that a value stood for, where each disk has given back what was written.
  abbrev pub IsExport : Option (List ℕ) → Option (List ℕ) → Result (Unit {0}) ManifestFault → Type 0
  IsExport before after r =
      AllClean g new.members → (w : World) → StandsFor g old w → WritesExport w p before after r
