-- What a call on a store makes of the package that it reads as, and what it answers of it.
use Rattle.std.specs.Prelude.{◌≡◌, ℕ, true, List}
use Rattle.sqlite.specs.Effect.{Database}
use Rattle.sheet_types.specs.Texts.{is_moment}
use Rattle.sheet_types.specs.World.{Package}
use Rattle.sheet_types.specs.declared.frame.Frame.{Frame}
use Rattle.package_tables.specs.Fixed.{contents_of}
use Rattle.package_tables.specs.Package.{tables_of}
use Rattle.identity_register.specs.Reads.{Reads}

-- A store that reads as a package which fits reads as the changed one afterwards.
abbrev pub Becomes : (Package → Type 0) → (Package → Package) → Database → Database → Type 0
Becomes Fits after old new = (f : Frame) (p : Package) → Reads f p old → Fits p → Reads f (after p) new

-- The store is the same, and this is what it answers of its package.
abbrev pub Sees : {X : Type 0} → (Frame → Package → X → Type 0) → X → Database → Database → Type 0
Sees Answer x old new = (new ≡ old) × ((f : Frame) (p : Package) → Reads f p old → Answer f p x)

-- In the tables of a package of this frame, this is the moment of the last change in each row of the contents (OGC
-- GeoPackage 1.3, 1.1.3).
abbrev pub HasLastChange : Frame → List ℕ → Database → Type 0
HasLastChange f at db = (tables_of db).contents ≡ contents_of f at

-- Where this is a moment, a store that reads as a package reads as the same one, it is that of its last change, and
-- beside the contents its tables say what they said.
abbrev pub Dates : List ℕ → Database → Database → Type 0
Dates at old new = is_moment at ≡ true → (f : Frame) (p : Package) → Reads f p old → Reads f p new
    × HasLastChange f at new × (tables_of new ≡ record (tables_of old) { contents = (tables_of new).contents })
