-- A new package: its head, and what its tables say.
use Rattle.std.specs.Prelude.{◌≡◌, ℕ, ◌≤◌, pos, List, [], ◌∷◌, Option}
use Rattle.sqlite.specs.Effect.{Database}
use Rattle.store_sql.specs.Blank.{IsBlank, no_schema}
use Rattle.sheet_types.specs.Reading.{optional_uuid_text}
use Rattle.sheet_types.specs.Texts.{uuid_text}
use Rattle.sheet_types.specs.Refuse.{greatest_depth, greatest_receipts}
use Rattle.sheet_types.specs.declared.frame.Frame.{Frame}
use Rattle.package_tables.specs.Package.{Tables, tables_of, AreFormed}
use Rattle.package_tables.specs.Fixed.{systems_of, contents_of, matrix_set, levels_of, mapping_relations}
use Rattle.package_tables.specs.declared.rows.HeadRow.{HeadRow}

-- the head of a package of the second version, with the moment at which it was made. The archive has no parent
abbrev pub head_of : List ℕ → Option (List ℕ) → ℕ → ℕ → List ℕ → HeadRow
head_of uuid parent depth loan created = record {
  id = pos 1;
  version = pos 2;
  «package» = uuid_text uuid;
  parent = optional_uuid_text parent;
  depth = pos depth;
  loan = pos loan;
  created = created;
}

-- tables that have no rows
abbrev pub no_rows : Tables
no_rows = record {
  spatial_ref_sys = [];
  contents = [];
  tile_matrix_set = [];
  tile_matrix = [];
  relations = [];
  tiles = [];
  media = [];
  rows = [];
  tiles_media = [];
  rows_media = [];
  rows_tiles = [];
  heads = [];
  identities = [];
  receipts = [];
  moved = [];
}

-- the fixed rows alone
abbrev pub fixed_tables : Frame → List ℕ → Tables
fixed_tables f at = record no_rows {
  spatial_ref_sys = systems_of f.srs_id;
  contents = contents_of f at;
  tile_matrix_set = matrix_set f ∷ [];
  tile_matrix = levels_of f;
  relations = mapping_relations;
}

-- the tables of a package with nothing in it
abbrev pub new_tables : Frame → HeadRow → Tables
new_tables f head = record (fixed_tables f head.created) { heads = head ∷ [] }

-- the database has the tables of a package, and they say this
pub record HoldsTables (db : Database) (t : Tables) : Type 0 where
  pub formed : AreFormed db
  pub says : tables_of db ≡ t

-- a database that was blank says this
abbrev pub Fills : Tables → Database → Database → Type 0
Fills t old new = IsBlank no_schema old → HoldsTables new t

-- tables that said the first say the second
abbrev pub TablesBecome : Tables → Tables → Tables → Tables → Type 0
TablesBecome from to before after = before ≡ from → after ≡ to

-- a depth and the number of a loan that a package may have
abbrev pub IsFitInfo : ℕ → ℕ → Type 0
IsFitInfo depth loan = (depth ≤ greatest_depth) × (loan ≤ greatest_receipts)
