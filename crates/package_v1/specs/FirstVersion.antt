-- When a store reads as a package at the first version, which had no table of the third mapping.
-- OGC GeoPackage 1.3 and OGC 18-000 for the tables; head and versions are profile.
use Rattle.std.specs.Prelude.{◌≡◌, ◌⊎◌, ℕ, ℤ, pos, List, [], ◌∷◌, map, codes}
use Rattle.sqlite.specs.Tree.{Trees}
use Rattle.sqlite.specs.Effect.{Database}
use Rattle.sqlite.specs.Schema.{Schema}
use Rattle.sqlite_catalog.specs.Listing.{IsSound}
use Rattle.sqlite_rules.specs.Lists.{Has}
use Rattle.sheet_types.specs.World.{Package}
use Rattle.sheet_types.specs.declared.frame.Frame.{Frame}
use Rattle.store_sql.specs.Blank.{IsFree}
use Rattle.store_sql.specs.Known.{HasTable}
use Rattle.store_sql.specs.Spelling.{Spelling, spelled}
use Rattle.package_tables.specs.Damaged.{AreFormedAt}
use Rattle.package_tables.specs.Package.{Tables, tables_of}
use Rattle.package_tables.specs.Fixed.{relation, mapping_relations}
use Rattle.package_tables.specs.SchemaMade.{by_rows_tiles}
use Rattle.package_tables.specs.Tables.{rows_tiles}
use Rattle.package_tables.specs.declared.rows.HeadRow.{HeadRow}
use Rattle.package_tables.specs.declared.rows.RelationRow.{RelationRow}
use Rattle.identity_register.specs.Reads.{Says, Reads}

-- no object of the schema has a name that a migration makes
pub record AreFree (schema : Schema) : Type 0 where
  pub table : IsFree schema (codes "rows_tiles")
  pub index : IsFree schema (codes "by_rows_tiles")

-- the relations of a package of the first version
abbrev pub first_relations : List RelationRow
first_relations =
    relation (pos 1) (codes "sheet_tiles") (codes "sheet_media") (codes "media") (codes "tiles_media")
    ∷ relation (pos 2) (codes "sheet_rows") (codes "sheet_media") (codes "media") (codes "rows_media")
    ∷ []

-- the one that the second version has besides
abbrev pub third_relation : RelationRow
third_relation = relation (pos 3) (codes "sheet_rows") (codes "sheet_tiles") (codes "tiles") (codes "rows_tiles")

-- The table of the third mapping is there, with an index that finds its rows by their other end.
pub record HasThirdIndex (schema : Schema) : Type 0 where
  pub at : ℕ
  pub spelling : Spelling
  pub has : HasTable schema at (spelled rows_tiles spelling)
  pub index : ℕ
  pub indexed : Has schema.indexes (by_rows_tiles spelling.tree index)

-- what a database of the first version says in its fourteen tables: it has no rows of the third mapping
abbrev pub first_tables_of : Database → Tables
first_tables_of db = record (tables_of db) { rows_tiles = [] }

abbrev pub with_version : ℤ → HeadRow → HeadRow
with_version version head = record head { version = version }

-- tables as those of the second version: the third relation is there, and the head says so
abbrev pub brought : Tables → Tables
brought t = record t { relations = mapping_relations; heads = map (with_version (pos 2)) t.heads }

-- The tables say this package at the first version: they have its two relations and its version in the head,
-- and as tables of the second they say it.
pub record SaysAtVersionOne (f : Frame) (p : Package) (t : Tables) : Type 0 where
  pub relations : t.relations ≡ first_relations
  pub version : map (λ h. h.version) t.heads ≡ pos 1 ∷ []
  pub says : Says f p (brought t)

-- A database reads as this package at the first version: its fourteen tables have their form, and nothing has a
-- name that the second version needs.
pub record ReadsAtVersionOne (f : Frame) (p : Package) (db : Database) : Type 0 where
  pub formed : AreFormedAt (pos 1) db
  pub free : AreFree db.schema
  pub says : SaysAtVersionOne f p (first_tables_of db)

-- at the first version or at the second
abbrev pub ReadsAtOne : Frame → Package → Database → Type 0
ReadsAtOne f p db = ReadsAtVersionOne f p db ⊎ Reads f p db

-- Trees read as this package at the first version or at the second, by the schema that they list.
abbrev pub ReadsAtEither : Frame → Package → Trees → Type 0
ReadsAtEither f p trees =
    (schema : Schema) × IsSound schema trees × ReadsAtOne f p (record { schema = schema; trees = trees })
