-- What the migration of a store makes of its database, whole and step by step.
use Rattle.std.specs.Prelude.{◌≡◌, ℤ, pos, [], ◌∷◌, codes}
use Rattle.sqlite.specs.Effect.{Database, IsDatabase}
use Rattle.sheet_types.specs.World.{Package}
use Rattle.sheet_types.specs.declared.frame.Frame.{Frame}
use Rattle.store_sql.specs.Blank.{IsFree}
use Rattle.package_tables.specs.Damaged.{AreFormedAt}
use Rattle.package_tables.specs.Package.{tables_of, AreFormed}
use Rattle.package_tables.specs.Changes.{Adds}
use Rattle.package_tables.specs.Listed.{relations}
use Rattle.package_tables.specs.declared.rows.HeadRow.{HeadRow}
use Rattle.package_tables.specs.declared.rows.RelationRow.{RelationRow}
use Rattle.identity_register.specs.Reads.{Reads}
use Rattle.package_v1.specs.FirstVersion.{AreFree, HasThirdIndex, first_tables_of, with_version, brought}
use Rattle.package_v1.specs.FirstVersion.{ReadsAtVersionOne, ReadsAtOne}

-- ---- the steps

-- all fifteen tables are there; the rows of the fourteen are as they were, and the new one has none
pub record HasThird (old new : Database) : Type 0 where
  pub formed : AreFormed new
  pub says : tables_of new ≡ first_tables_of old
  pub free : IsFree new.schema (codes "by_rows_tiles")

-- the table of the third mapping is made
abbrev pub MakesThird : Database → Database → Type 0
MakesThird old new = AreFormedAt (pos 1) old → AreFree old.schema → HasThird old new

-- its index is made, and no row changes
abbrev pub IndexesThird : Database → Database → Type 0
IndexesThird old new =
    AreFormed old → IsFree old.schema (codes "by_rows_tiles")
    → AreFormed new × (tables_of new ≡ tables_of old) × HasThirdIndex new.schema

-- a relation comes in, and the schema stays
abbrev pub AddsRelation : RelationRow → Database → Database → Type 0
AddsRelation row old new =
    AreFormed old → AreFormed new × Adds relations row (tables_of old) (tables_of new) × (new.schema ≡ old.schema)

-- the one head gets a version, and nothing else changes; the trees list the schema
abbrev pub SetsVersion : ℤ → Database → Database → Type 0
SetsVersion version old new =
    AreFormed old → (head : HeadRow) → (tables_of old).heads ≡ head ∷ []
    → AreFormed new × (tables_of new ≡ record (tables_of old) { heads = with_version version head ∷ [] })
    × (new.schema ≡ old.schema) × IsDatabase new

-- ---- the whole

-- It reads as the package, and its tables say what they said, but for the third relation and the version; the third
-- mapping has its index; the trees list the schema.
pub record IsBrought (f : Frame) (p : Package) (old new : Database) : Type 0 where
  pub reads : Reads f p new
  pub tables : tables_of new ≡ brought (first_tables_of old)
  pub indexed : HasThirdIndex new.schema
  pub sound : IsDatabase new

-- A store that reads as a package at the first version reads as the same one at the second.
abbrev pub Brings : Database → Database → Type 0
Brings old new = (f : Frame) (p : Package) → ReadsAtVersionOne f p old → IsBrought f p old new

-- A store that reads as a package at either version reads as the same one at the second, and its trees still list its
-- schema. One that was of the second version is as it was.
abbrev pub BringsIfFirst : Database → Database → Type 0
BringsIfFirst old new =
    (f : Frame) (p : Package) → ReadsAtOne f p old
    → Reads f p new × (IsDatabase old → IsDatabase new) × (Reads f p old → new ≡ old)
