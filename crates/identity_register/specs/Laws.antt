-- What holds of the reading of stores, whatever calls are made.
use Rattle.std.specs.Prelude.{◌≡◌}
use Rattle.sqlite.specs.Tree.{Trees}
use Rattle.sqlite.specs.Effect.{Database}
use Rattle.sqlite_schema.specs.declared.schema.Schema.{Schema}
use Rattle.sqlite_catalog.specs.Listing.{IsSound}
use Rattle.sheet_types.specs.World.{Package}
use Rattle.sheet_types.specs.declared.frame.Frame.{Frame}
use Rattle.identity_register.specs.Reads.{Reads}

-- A store reads as at most one package, of one frame.
abbrev pub ReadsAlone : Type 0
ReadsAlone = (f g : Frame) (p q : Package) (db : Database) → Reads f p db → Reads g q db → (f ≡ g) × (p ≡ q)

-- So do trees, by any schema that they list.
abbrev pub TreesReadAlone : Type 0
TreesReadAlone = (f g : Frame) (p q : Package) (one two : Schema) (trees : Trees) → IsSound one trees
    → IsSound two trees
    → Reads f p (record { schema = one; trees = trees }) → Reads g q (record { schema = two; trees = trees })
    → (f ≡ g) × (p ≡ q)
