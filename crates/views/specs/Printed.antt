-- What is printed as the map of a world. Profile.
use Rattle.std.specs.Prelude.{◌≡◌, ◌⊎◌, ℕ, ℤ, true, false, List, Option, Result, Ok, Err}
use Rattle.std.specs.Io.KnownBytes.{Appends}
use Rattle.sqlite.specs.Store.{Ghosts}
use Rattle.sheet_types.specs.Matrix.{has_level}
use Rattle.sheet_types.specs.World.{World}
use Rattle.view_map.specs.Worlds.{IsWorldMap}
use Rattle.world_members.specs.Members.{AllClean}
use Rattle.world.specs.Worlds.{IsRead, Seen, StandsFor}
use Rattle.manifest_csv.specs.Sent.{WentOut}
use Rattle.views.specs.Zooms.{drawn_zoom}
use Rattle.views.specs.declared.printing.MapFault.{MapFault}
use Rattle.views.specs.declared.printing.MapFault.TheVariants.{NoSuchZoom, Failed, Unwritten}

-- whether the frame has the zoom that is drawn
abbrev pub HasZoom : World → Option ℤ → Type 0
HasZoom w asked = has_level w.frame (drawn_zoom w.frame asked) ≡ true

-- it is the map of the world at the zoom that is drawn
abbrev pub IsMap : World → Option ℤ → List ℕ → Type 0
IsMap w asked text = IsWorldMap w (drawn_zoom w.frame asked) text

-- The map is written whole, or a beginning of it where the writer failed; none of a zoom that the frame does not have.
abbrev pub PrintsMap : World → Option ℤ → Option (List ℕ) → Option (List ℕ) → Result (Unit {0}) MapFault
    → Type 0
PrintsMap w asked before after (Ok x) =
    HasZoom w asked × ((text : List ℕ) × IsMap w asked text × Appends before after text)
PrintsMap w asked before after (Err NoSuchZoom) = has_level w.frame (drawn_zoom w.frame asked) ≡ false
PrintsMap w asked before after (Err (Failed fault)) = Unit {0}
PrintsMap w asked before after (Err Unwritten) =
    HasZoom w asked × ((text : List ℕ) × IsMap w asked text × WentOut before after text)

-- Nothing is written where there was no map to write.
abbrev pub LeavesUnprinted : {W : Type 0} → W → W → Result (Unit {0}) MapFault → Type 0
LeavesUnprinted old new (Ok x) = Unit {0}
LeavesUnprinted old new (Err NoSuchZoom) = new ≡ old
LeavesUnprinted old new (Err (Failed fault)) = new ≡ old
LeavesUnprinted old new (Err Unwritten) = Unit {0}

module _ {S : Type 0} (g : Ghosts S) where
  -- The world is as it was, or it was only read.
  abbrev pub IsUntouched : Seen S → Seen S → Type 0
  IsUntouched old new = (new ≡ old) ⊎ IsRead g old new

  -- Of each world that a value stood for its map was printed, where each disk has given back what was written.
  abbrev pub IsPrinted : Option ℤ → Seen S → Seen S → Option (List ℕ) → Option (List ℕ)
      → Result (Unit {0}) MapFault → Type 0
  IsPrinted asked old new before after r =
      AllClean g new.members → (w : World) → StandsFor g old w → PrintsMap w asked before after r
