-- A database that has all known tables of another, with their rows.
use Rattle.std.proofs.Common.{◌≡◌, ℕ, pos, List, map, Bool, true, codes, refl, sym, ap, subst, ◌∙◌}
use Rattle.std.specs.List.{AllByRecursion}
use Rattle.sqlite.specs.Table.{Table}
use Rattle.sqlite.specs.Effect.{Database, IsDatabase}
use Rattle.sheet_types.specs.Ordered.{arranged}
use Rattle.sheet_types.specs.declared.command.Mapping.TheVariants.{TilesMedia, RowsMedia, RowsTiles}
use Rattle.store_sql.specs.Known.{HasTable, IsQuiet, is_other}
use Rattle.store_sql.specs.Writing.{IsKeyed}
use Rattle.store_sql.specs.Spelling.{spelled}
use Rattle.package_tables.specs.Damaged.{AreFormedAt}
use Rattle.package_tables.specs.Shape.{Shape, IsShape, IsFormed, IsStored, stored_rows, rows_of}
use Rattle.package_tables.specs.Shapes.{spatial_ref_sys_shape, contents_shape, tile_matrix_set_shape}
use Rattle.package_tables.specs.Shapes.{tile_matrix_shape, relation_shape, tile_shape, medium_shape, attribute_shape}
use Rattle.package_tables.specs.Shapes.{tiles_media_shape, rows_media_shape, rows_tiles_shape, head_shape}
use Rattle.package_tables.specs.Shapes.{identity_shape, receipt_shape, moved_shape}
use Rattle.package_tables.specs.declared.rows.MappingRow.{MappingRow}
use Rattle.package_tables.specs.Package.{Tables, tables_of, AreFormed}
use Rattle.package_tables.proofs.Shapes.{rows_placed}
use Rattle.package_tables.proofs.Written.{systems_listed, contents_listed, matrix_sets_listed, matrices_listed}
use Rattle.package_tables.proofs.Written.{relations_listed, tiles_listed, media_listed, attributes_listed}
use Rattle.package_tables.proofs.Written.{pairs_listed, heads_listed, identities_listed, receipts_listed}
use Rattle.package_tables.proofs.Written.{moved_listed}

-- each known table whose name passes is known, at some place, and its rows are the same
pub record Carries (stays : List ℕ → Bool) (old new : Database) : Type 0 where
  pub has : (at : ℕ) (u : Table) → stays u.name ≡ true → HasTable old.schema at u → (be : ℕ)
      × HasTable new.schema be u
  pub rows : (at : ℕ) (u : Table) → stays u.name ≡ true → HasTable old.schema at u
      → new.trees u.tree ≡ old.trees u.tree
  pub quiet : IsQuiet old.schema → IsQuiet new.schema

-- a table keeps its form and its rows
pub carried : {R : Type 0} (shape : Shape R) (laws : IsShape shape) (stays : List ℕ → Bool) (old new : Database)
    → Carries stays old new → stays (shape.table 0).name ≡ true → IsFormed shape old
    → IsFormed shape new × (rows_of shape new ≡ rows_of shape old)
carried shape laws stays old new it passes formed =
    let p = formed.placed in
    let named : stays (spelled shape.table p.spelling).name ≡ true =
    ap stays (laws.named p.spelling.tree) ∙ passes in
    let has = it.has p.at (spelled shape.table p.spelling) named p.has in
    let rows : stored_rows shape new ≡ stored_rows shape old =
    rows_placed shape laws new has.0 p.spelling has.1
    ∙ it.rows p.at (spelled shape.table p.spelling) named p.has
    ∙ sym (rows_placed shape laws old p.at p.spelling p.has) in (
      record {
        placed = record { at = has.0; spelling = p.spelling; meant = p.meant; has = has.1 };
        keyed = subst IsKeyed (sym rows) formed.keyed;
        stored = subst (AllByRecursion (IsStored shape)) (sym rows)
            formed.stored;
      },
      ap (λ l. arranged shape.key (map shape.typed l)) rows,
    )

-- The fourteen tables do, where none of them is to go.
module _ (stays : List ℕ → Bool) (old new : Database) (it : Carries stays old new)
    (others : (name : List ℕ) → is_other name (codes "rows_tiles") ≡ true → stays name ≡ true)
    (f : AreFormedAt (pos 1) old) where
  systems : IsFormed spatial_ref_sys_shape new × (rows_of spatial_ref_sys_shape new
      ≡ rows_of spatial_ref_sys_shape old)
  systems = carried spatial_ref_sys_shape systems_listed.laws stays old new it
      (others (spatial_ref_sys_shape.table 0).name refl) f.spatial_ref_sys

  contents : IsFormed contents_shape new × (rows_of contents_shape new ≡ rows_of contents_shape old)
  contents = carried contents_shape contents_listed.laws stays old new it (others (contents_shape.table 0).name refl)
      f.contents

  sets : IsFormed tile_matrix_set_shape new × (rows_of tile_matrix_set_shape new ≡ rows_of tile_matrix_set_shape old)
  sets = carried tile_matrix_set_shape matrix_sets_listed.laws stays old new it
      (others (tile_matrix_set_shape.table 0).name refl) f.tile_matrix_set

  matrices : IsFormed tile_matrix_shape new × (rows_of tile_matrix_shape new ≡ rows_of tile_matrix_shape old)
  matrices = carried tile_matrix_shape matrices_listed.laws stays old new it
      (others (tile_matrix_shape.table 0).name refl) f.tile_matrix

  relations : IsFormed relation_shape new × (rows_of relation_shape new ≡ rows_of relation_shape old)
  relations = carried relation_shape relations_listed.laws stays old new it
      (others (relation_shape.table 0).name refl) f.relations

  tiles : IsFormed tile_shape new × (rows_of tile_shape new ≡ rows_of tile_shape old)
  tiles = carried tile_shape tiles_listed.laws stays old new it (others (tile_shape.table 0).name refl) f.tiles

  media : IsFormed medium_shape new × (rows_of medium_shape new ≡ rows_of medium_shape old)
  media = carried medium_shape media_listed.laws stays old new it (others (medium_shape.table 0).name refl) f.media

  rows : IsFormed attribute_shape new × (rows_of attribute_shape new ≡ rows_of attribute_shape old)
  rows = carried attribute_shape attributes_listed.laws stays old new it (others (attribute_shape.table 0).name refl)
      f.rows

  tiles_media : IsFormed tiles_media_shape new × (rows_of tiles_media_shape new ≡ rows_of tiles_media_shape old)
  tiles_media = carried tiles_media_shape (pairs_listed TilesMedia).laws stays old new it
      (others (tiles_media_shape.table 0).name refl) f.tiles_media

  rows_media : IsFormed rows_media_shape new × (rows_of rows_media_shape new ≡ rows_of rows_media_shape old)
  rows_media = carried rows_media_shape (pairs_listed RowsMedia).laws stays old new it
      (others (rows_media_shape.table 0).name refl) f.rows_media

  heads : IsFormed head_shape new × (rows_of head_shape new ≡ rows_of head_shape old)
  heads = carried head_shape heads_listed.laws stays old new it (others (head_shape.table 0).name refl) f.heads

  identities : IsFormed identity_shape new × (rows_of identity_shape new ≡ rows_of identity_shape old)
  identities = carried identity_shape identities_listed.laws stays old new it
      (others (identity_shape.table 0).name refl) f.identities

  receipts : IsFormed receipt_shape new × (rows_of receipt_shape new ≡ rows_of receipt_shape old)
  receipts = carried receipt_shape receipts_listed.laws stays old new it (others (receipt_shape.table 0).name refl)
      f.receipts

  moved : IsFormed moved_shape new × (rows_of moved_shape new ≡ rows_of moved_shape old)
  moved = carried moved_shape moved_listed.laws stays old new it (others (moved_shape.table 0).name refl) f.moved

  pub still_formed : AreFormedAt (pos 1) new
  still_formed = record {
    quiet = it.quiet f.quiet;
    spatial_ref_sys = systems.0;
    contents = contents.0;
    tile_matrix_set = sets.0;
    tile_matrix = matrices.0;
    relations = relations.0;
    tiles = tiles.0;
    media = media.0;
    rows = rows.0;
    tiles_media = tiles_media.0;
    rows_media = rows_media.0;
    rows_tiles = λ two. absurd (let e = two in cc);
    heads = heads.0;
    identities = identities.0;
    receipts = receipts.0;
    moved = moved.0;
  }

  pub still_said : (last : List MappingRow) → ◌≡◌ {A = Tables} (record (tables_of new) { rows_tiles = last })
      (record (tables_of old) { rows_tiles = last })
  still_said last = λ i. record {
    spatial_ref_sys = systems.1 i;
    contents = contents.1 i;
    tile_matrix_set = sets.1 i;
    tile_matrix = matrices.1 i;
    relations = relations.1 i;
    tiles = tiles.1 i;
    media = media.1 i;
    rows = rows.1 i;
    tiles_media = tiles_media.1 i;
    rows_media = rows_media.1 i;
    rows_tiles = last;
    heads = heads.1 i;
    identities = identities.1 i;
    receipts = receipts.1 i;
    moved = moved.1 i;
  }

-- fourteen tables and the last are fifteen
pub with_last : (new : Database) → IsDatabase new → AreFormedAt (pos 1) new → IsFormed rows_tiles_shape new
    → AreFormed new
with_last new sound g last = record {
  sound = sound;
  quiet = g.quiet;
  spatial_ref_sys = g.spatial_ref_sys;
  contents = g.contents;
  tile_matrix_set = g.tile_matrix_set;
  tile_matrix = g.tile_matrix;
  relations = g.relations;
  tiles = g.tiles;
  media = g.media;
  rows = g.rows;
  tiles_media = g.tiles_media;
  rows_media = g.rows_media;
  rows_tiles = last;
  heads = g.heads;
  identities = g.identities;
  receipts = g.receipts;
  moved = g.moved;
}

-- the fifteen tables are fourteen and one
pub first_of : (db : Database) → AreFormed db → AreFormedAt (pos 1) db
first_of db f = record {
  quiet = f.quiet;
  spatial_ref_sys = f.spatial_ref_sys;
  contents = f.contents;
  tile_matrix_set = f.tile_matrix_set;
  tile_matrix = f.tile_matrix;
  relations = f.relations;
  tiles = f.tiles;
  media = f.media;
  rows = f.rows;
  tiles_media = f.tiles_media;
  rows_media = f.rows_media;
  rows_tiles = λ _. f.rows_tiles;
  heads = f.heads;
  identities = f.identities;
  receipts = f.receipts;
  moved = f.moved;
}

pub fifteen_carried : (old new : Database) → Carries (λ name. true) old new → IsDatabase new → AreFormed old
    → AreFormed new × (tables_of new ≡ tables_of old)
fifteen_carried old new it sound f =
    let last = carried rows_tiles_shape (pairs_listed RowsTiles).laws (λ name. true) old new it refl f.rows_tiles in (
      with_last new sound (still_formed (λ name. true) old new it (λ name other. refl) (first_of old f)) last.0,
      still_said (λ name. true) old new it (λ name other. refl) (first_of old f) (tables_of new).rows_tiles
          ∙ ap (λ l. record (tables_of old) { rows_tiles = l }) last.1,
    )
