-- All fifteen tables have their form where they are there and the two whose columns let a NULL in have none.
use Rattle.std.proofs.Common.{◌≡◌, ◌∙◌, Bool, false, IsTrue, sym, refl}
use Rattle.std.proofs.lemmas.Bool.{false≢true}
use Rattle.std.specs.Prelude.{◌↔◌, true}
use Rattle.std.specs.List.{AllByRecursion}
use Rattle.sqlite.specs.Effect.{Database, IsDatabase}
use Rattle.store_sql.specs.Writing.{AreKeyed}
use Rattle.package_tables.specs.Package.{AreFormed}
use Rattle.package_tables.specs.Shape.{Shape, stored_rows}
use Rattle.package_tables.specs.Shapes.{spatial_ref_sys_shape, contents_shape, tile_matrix_set_shape}
use Rattle.package_tables.specs.Shapes.{tile_matrix_shape, relation_shape, tile_shape, medium_shape, attribute_shape}
use Rattle.package_tables.specs.Shapes.{tiles_media_shape, rows_media_shape, rows_tiles_shape, head_shape}
use Rattle.package_tables.specs.Shapes.{identity_shape, receipt_shape, moved_shape}
use Rattle.package_schema.specs.Forms.{HasFirstForm}
use Rattle.package_schema.specs.Placing.{AreAllPlaced, AreFirstPlaced}
use Rattle.package_schema.specs.Rows.{is_filled, AreFilled}
use Rattle.package_schema.proofs.Forming.{formed_filled, formed_needed, filled_formed}
use Rattle.package_schema.proofs.Plain.{systems_plain, contents_plain, matrix_sets_plain, matrices_plain}
use Rattle.package_schema.proofs.Plain.{relations_plain, tiles_plain, media_plain, attributes_plain}
use Rattle.package_schema.proofs.Plain.{tiles_media_plain, rows_media_plain, rows_tiles_plain, heads_plain}
use Rattle.package_schema.proofs.Plain.{identities_plain, receipts_plain, moved_plain}

-- no row of the table has a NULL
abbrev pub HasValues : {R : Type 0} → Shape R → Database → Type 0
HasValues shape db = AllByRecursion (λ r. is_filled (shape.table 0) r ≡ true) (stored_rows shape db)

pub all_formed : (db : Database) → IsDatabase db → AreKeyed db → AreAllPlaced db.schema
    → HasValues spatial_ref_sys_shape db → HasValues contents_shape db → AreFormed db
all_formed db sound keyed placed systems contents = record {
  sound = sound;
  quiet = placed.0;
  spatial_ref_sys = formed_filled spatial_ref_sys_shape systems_plain db sound keyed placed.1.0 systems;
  contents = formed_filled contents_shape contents_plain db sound keyed placed.1.1 contents;
  tile_matrix_set = formed_needed tile_matrix_set_shape matrix_sets_plain db sound keyed placed.1.2 refl;
  tile_matrix = formed_needed tile_matrix_shape matrices_plain db sound keyed placed.1.3 refl;
  relations = formed_needed relation_shape relations_plain db sound keyed placed.1.4 refl;
  tiles = formed_needed tile_shape tiles_plain db sound keyed placed.2.0 refl;
  media = formed_needed medium_shape media_plain db sound keyed placed.2.1 refl;
  rows = formed_needed attribute_shape attributes_plain db sound keyed placed.2.2 refl;
  tiles_media = formed_needed tiles_media_shape tiles_media_plain db sound keyed placed.2.3 refl;
  rows_media = formed_needed rows_media_shape rows_media_plain db sound keyed placed.2.4 refl;
  rows_tiles = formed_needed rows_tiles_shape rows_tiles_plain db sound keyed placed.2.5 refl;
  heads = formed_needed head_shape heads_plain db sound keyed placed.3.0 refl;
  identities = formed_needed identity_shape identities_plain db sound keyed placed.3.1 refl;
  receipts = formed_needed receipt_shape receipts_plain db sound keyed placed.3.2 refl;
  moved = formed_needed moved_shape moved_plain db sound keyed placed.3.3 refl;
}

pub all_placed : (db : Database) → AreFormed db → AreAllPlaced db.schema
all_placed db f = (
  f.quiet,
  (f.spatial_ref_sys.placed, f.contents.placed, f.tile_matrix_set.placed, f.tile_matrix.placed, f.relations.placed),
  (f.tiles.placed, f.media.placed, f.rows.placed, f.tiles_media.placed, f.rows_media.placed, f.rows_tiles.placed),
  (f.heads.placed, f.identities.placed, f.receipts.placed, f.moved.placed),
)

pub systems_values : (db : Database) → AreFormed db → HasValues spatial_ref_sys_shape db
systems_values db f = filled_formed spatial_ref_sys_shape systems_plain db f.spatial_ref_sys

pub contents_values : (db : Database) → AreFormed db → HasValues contents_shape db
contents_values db f = filled_formed contents_shape contents_plain db f.contents

-- ---- what the tests tell, one after the other

-- the tables were looked for, and then the reference systems
abbrev pub Tried : Bool → Bool → Database → Type 0
Tried placed filled db = (IsDatabase db × (IsTrue placed ↔ AreAllPlaced db.schema))
    × (AreKeyed db → AreFilled spatial_ref_sys_shape db filled)

pub not_filled : (db : Database) (placed filled : Bool) → Tried placed filled db → filled ≡ false → AreKeyed db
    → (IsTrue false ↔ AreFormed db)
not_filled db placed filled tried is keyed = (
  λ h. absurd (false≢true h),
  λ formed. absurd
      (false≢true (sym is ∙ (tried.1 keyed formed.spatial_ref_sys.placed).1 (systems_values db formed))),
)

pub last_tells : (db : Database) (placed filled full : Bool) → Tried placed filled db → placed ≡ true
    → filled ≡ true
    → (AreKeyed db → AreFilled contents_shape db full) → AreKeyed db → (IsTrue full ↔ AreFormed db)
last_tells db placed filled full tried there has last keyed = (
  λ h. let all = tried.0.1.0 there in all_formed db tried.0.0 keyed all ((tried.1 keyed all.1.0).0 has)
      ((last keyed all.1.1).0 h),
  λ formed. (last keyed formed.contents.placed).1 (contents_values db formed),
)

-- ---- the first version

pub first_formed : (db : Database) → IsDatabase db → AreKeyed db → AreFirstPlaced db.schema
    → HasValues spatial_ref_sys_shape db → HasValues contents_shape db → HasFirstForm db
first_formed db sound keyed placed systems contents = (
  record {
    quiet = placed.0.0;
    spatial_ref_sys = formed_filled spatial_ref_sys_shape systems_plain db sound keyed placed.0.1.0 systems;
    contents = formed_filled contents_shape contents_plain db sound keyed placed.0.1.1 contents;
    tile_matrix_set = formed_needed tile_matrix_set_shape matrix_sets_plain db sound keyed placed.0.1.2 refl;
    tile_matrix = formed_needed tile_matrix_shape matrices_plain db sound keyed placed.0.1.3 refl;
    relations = formed_needed relation_shape relations_plain db sound keyed placed.0.1.4 refl;
    tiles = formed_needed tile_shape tiles_plain db sound keyed placed.0.2.0 refl;
    media = formed_needed medium_shape media_plain db sound keyed placed.0.2.1 refl;
    rows = formed_needed attribute_shape attributes_plain db sound keyed placed.0.2.2 refl;
    tiles_media = formed_needed tiles_media_shape tiles_media_plain db sound keyed placed.0.2.3 refl;
    rows_media = formed_needed rows_media_shape rows_media_plain db sound keyed placed.0.2.4 refl;
    rows_tiles = λ two. absurd (let e = two in cc);
    heads = formed_needed head_shape heads_plain db sound keyed placed.0.3.0 refl;
    identities = formed_needed identity_shape identities_plain db sound keyed placed.0.3.1 refl;
    receipts = formed_needed receipt_shape receipts_plain db sound keyed placed.0.3.2 refl;
    moved = formed_needed moved_shape moved_plain db sound keyed placed.0.3.3 refl;
  },
  placed.1,
)

pub first_placed : (db : Database) → HasFirstForm db → AreFirstPlaced db.schema
first_placed db (f, free) = (
  (
    f.quiet,
    (f.spatial_ref_sys.placed, f.contents.placed, f.tile_matrix_set.placed, f.tile_matrix.placed, f.relations.placed),
    (f.tiles.placed, f.media.placed, f.rows.placed, f.tiles_media.placed, f.rows_media.placed),
    (f.heads.placed, f.identities.placed, f.receipts.placed, f.moved.placed),
  ),
  free,
)

abbrev pub TriedFirst : Bool → Bool → Database → Type 0
TriedFirst placed filled db = (IsDatabase db × (IsTrue placed ↔ AreFirstPlaced db.schema))
    × (AreKeyed db → AreFilled spatial_ref_sys_shape db filled)

pub first_not_filled : (db : Database) (placed filled : Bool) → TriedFirst placed filled db → filled ≡ false
    → AreKeyed db → (IsTrue false ↔ HasFirstForm db)
first_not_filled db placed filled tried is keyed = (
  λ h. absurd (false≢true h),
  λ formed. absurd (false≢true
      (sym is ∙ (tried.1 keyed formed.0.spatial_ref_sys.placed).1
      (filled_formed spatial_ref_sys_shape systems_plain db formed.0.spatial_ref_sys))),
)

pub first_tells : (db : Database) (placed filled full : Bool) → TriedFirst placed filled db → placed ≡ true
    → filled ≡ true → (AreKeyed db → AreFilled contents_shape db full) → AreKeyed db
    → (IsTrue full ↔ HasFirstForm db)
first_tells db placed filled full tried there has last keyed = (
  λ h. let all = tried.0.1.0 there in first_formed db tried.0.0 keyed all ((tried.1 keyed all.0.1.0).0 has)
      ((last keyed all.0.1.1).0 h),
  λ formed. (last keyed formed.0.contents.placed).1 (filled_formed contents_shape contents_plain db formed.0.contents),
)
