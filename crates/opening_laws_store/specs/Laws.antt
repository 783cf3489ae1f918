-- Laws of stores that read as packages of a register. Profile.
use Rattle.std.specs.Prelude.{◌≡◌, ◌==◌, true, false, is_some}
use Rattle.sqlite.specs.Effect.{Database}
use Rattle.sheet_types.specs.Lines.{IsUuid}
use Rattle.sheet_types.specs.Opening.{Head, head_of}
use Rattle.sheet_types.specs.Register.{IsKeptPackage}
use Rattle.sheet_types.specs.World.{World, Package}
use Rattle.sheet_types.specs.declared.frame.Frame.{Frame}
use Rattle.identity_register.specs.Reads.{Reads}
use Rattle.package_schema.specs.Heads.{IsHead}
use Rattle.opening_laws_model.specs.Timely.{IsInBounds}
use Rattle.opening_laws_store.specs.Kept.{IsWholeAs}

-- A store that reads as a package which keeps its rules and is in bounds is whole and tied; head and claims are the
-- package's.
abbrev pub KeptStoreIsWhole : Type 0
KeptStoreIsWhole = (w : World) (p : Package) (db : Database) → IsKeptPackage w p → IsInBounds p →
    Reads w.frame p db → IsWholeAs w.frame p db

-- The head that a store says is that of the package that it reads as.
abbrev pub HeadIsKnown : Type 0
HeadIsKnown = (f : Frame) (p : Package) (db : Database) (h : Head) → Reads f p db → IsHead db h → h ≡ head_of p

-- A head with a parent is not that of an archive.
abbrev pub LentHeadIsLow : Type 0
LentHeadIsLow = (db : Database) (h : Head) → IsHead db h → is_some h.parent ≡ true →
    ((h.depth == 0) ≡ false) × IsUuid h.uuid
