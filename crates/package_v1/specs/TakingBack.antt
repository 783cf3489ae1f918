-- What is taken back of a store, so that it is one of the first version: tests ask for it, and no call of the product.
use Rattle.std.specs.Prelude.{◌≡◌, pos, []}
use Rattle.std.specs.Ordering.{int_eq}
use Rattle.sqlite.specs.Effect.{Database}
use Rattle.sheet_types.specs.World.{Package}
use Rattle.sheet_types.specs.declared.frame.Frame.{Frame}
use Rattle.package_tables.specs.Damaged.{AreFormedAt}
use Rattle.package_tables.specs.Package.{Tables, tables_of, AreFormed}
use Rattle.package_tables.specs.Changes.{Drops}
use Rattle.package_tables.specs.Listed.{relations}
use Rattle.identity_register.specs.Reads.{Reads}
use Rattle.package_v1.specs.FirstVersion.{AreFree, first_tables_of, ReadsAtVersionOne}

-- the third relation goes
abbrev pub DropsThirdRelation : Tables → Tables → Type 0
DropsThirdRelation = Drops relations (λ x. int_eq x.id (pos 3))

-- the table of the third mapping goes, with its indexes; the fourteen stay as they were
abbrev pub DropsThird : Database → Database → Type 0
DropsThird old new = AreFormed old → AreFormedAt (pos 1) new × (first_tables_of new ≡ first_tables_of old)

-- A store that reads as a package with no row in the third mapping reads as it at the first version, if nothing else
-- has the names of the second.
abbrev pub TakesBack : Database → Database → Type 0
TakesBack old new =
    (f : Frame) (p : Package) → Reads f p old → (tables_of old).rows_tiles ≡ [] → AreFree new.schema
    → ReadsAtVersionOne f p new
