-- The statements on `gpkg_spatial_ref_sys`, `gpkg_contents`, `gpkg_tile_matrix_set`, `gpkg_tile_matrix`,
-- `gpkgext_relations`.
use Rattle.std.proofs.Common.{ℕ, List, [], ◌∷◌, codes, refl}
use Rattle.sqlite.specs.Order.{Row}
use Rattle.sqlite.specs.Edit.{next_rowid}
use Rattle.sqlite.specs.declared.types.Value.TheVariants.{Int, Null, Text}
use Rattle.sqlite_tied.specs.Compute.{everything}
use Rattle.store_sql.proofs.Insert.{IsInsert, IsRow}
use Rattle.std.proofs.Common.{◌≡◌, true}
use Rattle.sqlite.specs.Term.{Term, col}
use Rattle.store_sql.specs.Resolving.{resolving}
use Rattle.store_sql.specs.Kinds.{has_kinds}
use Rattle.sqlite_trees.specs.View.{is_int}
use Rattle.sqlite.specs.declared.types.Value.{Value}
use Rattle.sqlite.specs.declared.types.Value.TheVariants.{Real, Blob}
use Rattle.store_sql.proofs.Update.{IsUpdate, IsPlannedUpdate}
use Rattle.package_tables.specs.Tables.{gpkg_spatial_ref_sys, gpkg_contents, gpkg_tile_matrix_set, gpkg_tile_matrix}
use Rattle.package_tables.specs.Tables.{gpkgext_relations}
use Rattle.package_tables.specs.Shapes.{spatial_ref_sys_shape, contents_shape, tile_matrix_set_shape}
use Rattle.package_tables.specs.Shapes.{tile_matrix_shape, relation_shape}
use Rattle.package_tables.specs.declared.rows.SpatialRefSysRow.{SpatialRefSysRow}
use Rattle.package_tables.specs.declared.rows.ContentsRow.{ContentsRow}
use Rattle.package_tables.specs.declared.rows.TileMatrixSetRow.{TileMatrixSetRow}
use Rattle.package_tables.specs.declared.rows.TileMatrixRow.{TileMatrixRow}
use Rattle.package_tables.specs.declared.rows.RelationRow.{RelationRow}
use Rattle.store_sql.specs.Reading.{always, ascending}
use Rattle.store_sql.specs.Spelling.{Spelling, spelled}
use Rattle.store_sql.proofs.Resolve.{one_table}
use Rattle.store_sql.proofs.Select.{IsSelect, IsPlannedSelect}
use Rattle.package_tables.specs.Shapes.{int_at, text_at}
use Rattle.package_tables.specs.Listed.{systems, contents, matrix_sets, matrices, relations}
use Rattle.package_tables.specs.Shown.{spatial_ref_sys_shown, contents_shown, tile_matrix_set_shown}
use Rattle.package_tables.specs.Shown.{tile_matrix_shown, relation_shown}
use Rattle.package_tables.proofs.Looking.{IsKnown, IsLookUp}
use Rattle.package_tables.proofs.Written.{systems_listed, contents_listed, matrix_sets_listed, matrices_listed}
use Rattle.package_tables.proofs.Written.{relations_listed}
use Rattle.std.specs.Ordering.{on, int_cmp}
use Rattle.std.proofs.lemmas.Cmp.{on_total, int_cmp_total}
use Rattle.package_tables.proofs.Looking.{IsRanked}
use Rattle.package_tables.proofs.Ranking.{one_number}

pub spatial_ref_sys_insert_text : (spelling : Spelling) → IsInsert
    (codes "INSERT INTO gpkg_spatial_ref_sys VALUES (?1, ?2, ?3, ?4, ?5, ?6)") (spelled gpkg_spatial_ref_sys spelling)
unfolding everything
spatial_ref_sys_insert_text spelling = record {
  parse = _;
  rows = _;
  parsed = refl;
  statement = refl;
  formats = refl;
  named = refl;
  unstamped = refl;
  source = λ schema. refl;
}

pub spatial_ref_sys_insert_row : (row : SpatialRefSysRow) (spelling : Spelling) (there : List Row)
    → IsRow (spelled gpkg_spatial_ref_sys spelling) (Text row.srs_name ∷ Int row.srs_id ∷ Text row.organization
    ∷ Int row.organization_coordsys_id ∷ Text row.definition ∷ Text row.description ∷ []) there
    (spatial_ref_sys_shape.stored Null row)
spatial_ref_sys_insert_row row spelling there = record { source = _; laid = refl; kinds = refl; placed = λ top. refl }

pub contents_insert_text : (spelling : Spelling) → IsInsert (codes
    "INSERT INTO gpkg_contents VALUES (?1, ?2, ?3, ?4, ?5, ?6, ?7, ?8, ?9, ?10)") (spelled gpkg_contents spelling)
unfolding everything
contents_insert_text spelling = record {
  parse = _;
  rows = _;
  parsed = refl;
  statement = refl;
  formats = refl;
  named = refl;
  unstamped = refl;
  source = λ schema. refl;
}

pub contents_insert_row : (row : ContentsRow) (spelling : Spelling) (there : List Row)
    → IsRow (spelled gpkg_contents spelling) (Text row.table_name ∷ Text row.data_type ∷ Text row.identifier
    ∷ Text row.description ∷ Text row.last_change ∷ Int row.min_x ∷ Int row.min_y ∷ Int row.max_x
    ∷ Int row.max_y ∷ Int row.srs_id ∷ []) there (contents_shape.stored (Int (next_rowid there)) row)
contents_insert_row row spelling there = record { source = _; laid = refl; kinds = refl; placed = λ top. refl }

pub tile_matrix_set_insert_text : (spelling : Spelling) → IsInsert
    (codes "INSERT INTO gpkg_tile_matrix_set VALUES (?1, ?2, ?3, ?4, ?5, ?6)") (spelled gpkg_tile_matrix_set spelling)
unfolding everything
tile_matrix_set_insert_text spelling = record {
  parse = _;
  rows = _;
  parsed = refl;
  statement = refl;
  formats = refl;
  named = refl;
  unstamped = refl;
  source = λ schema. refl;
}

pub tile_matrix_set_insert_row : (row : TileMatrixSetRow) (spelling : Spelling) (there : List Row)
    → IsRow (spelled gpkg_tile_matrix_set spelling) (Text row.table_name ∷ Int row.srs_id ∷ Int row.min_x
    ∷ Int row.min_y ∷ Int row.max_x ∷ Int row.max_y ∷ []) there
    (tile_matrix_set_shape.stored (Int (next_rowid there)) row)
tile_matrix_set_insert_row row spelling there = record { source = _; laid = refl; kinds = refl; placed = λ top. refl }

pub tile_matrix_insert_text : (spelling : Spelling) → IsInsert
    (codes "INSERT INTO gpkg_tile_matrix VALUES (?1, ?2, ?3, ?4, ?5, ?6, ?7, ?8)") (spelled gpkg_tile_matrix spelling)
unfolding everything
tile_matrix_insert_text spelling = record {
  parse = _;
  rows = _;
  parsed = refl;
  statement = refl;
  formats = refl;
  named = refl;
  unstamped = refl;
  source = λ schema. refl;
}

pub tile_matrix_insert_row : (row : TileMatrixRow) (spelling : Spelling) (there : List Row)
    → IsRow (spelled gpkg_tile_matrix spelling) (Text row.table_name ∷ Int row.zoom_level ∷ Int row.matrix_width
    ∷ Int row.matrix_height ∷ Int row.tile_width ∷ Int row.tile_height ∷ Int row.pixel_x_size
    ∷ Int row.pixel_y_size ∷ []) there (tile_matrix_shape.stored (Int (next_rowid there)) row)
tile_matrix_insert_row row spelling there = record { source = _; laid = refl; kinds = refl; placed = λ top. refl }

pub relation_insert_text : (spelling : Spelling) → IsInsert (codes
    "INSERT INTO gpkgext_relations VALUES (?1, ?2, ?3, ?4, ?5, ?6, ?7)") (spelled gpkgext_relations spelling)
unfolding everything
relation_insert_text spelling = record {
  parse = _;
  rows = _;
  parsed = refl;
  statement = refl;
  formats = refl;
  named = refl;
  unstamped = refl;
  source = λ schema. refl;
}

pub relation_insert_row : (row : RelationRow) (spelling : Spelling) (there : List Row)
    → IsRow (spelled gpkgext_relations spelling) (Int row.id ∷ Text row.base_table_name
    ∷ Text row.base_primary_column ∷ Text row.related_table_name ∷ Text row.related_primary_column
    ∷ Text row.relation_name ∷ Text row.mapping_table_name ∷ []) there (relation_shape.stored Null row)
relation_insert_row row spelling there = record { source = _; laid = refl; kinds = refl; placed = λ top. refl }

abbrev pub change_terms : List Term
change_terms = col 1 0 ∷ col 1 0 ∷ col 1 1 ∷ col 1 2 ∷ col 1 3 ∷ col 1 4 ∷ col 0 0 ∷ col 1 6 ∷ col 1 7
    ∷ col 1 8 ∷ col 1 9 ∷ col 1 10 ∷ []

pub change_text : (spelling : Spelling) → IsUpdate (codes "UPDATE gpkg_contents SET last_change = ?1")
    (spelled gpkg_contents spelling) always 0 change_terms
unfolding everything
change_text spelling = record {
  parse = _;
  name = _;
  value = _;
  where' = _;
  place = _;
  parsed = refl;
  statement = refl;
  formats = refl;
  named = refl;
  given = refl;
  placed = refl;
  projected = refl;
  condition = refl;
  enough = refl;
}

pub change_plan : (spelling : Spelling) → IsPlannedUpdate (spelled gpkg_contents spelling) always change_terms
unfolding resolving
change_plan spelling schema at h = rw (h.stored, h.by_tree) refl

-- a row of the contents is of its columns' kinds
pub contents_kinds : (spelling : Spelling) (v : Value) (c : ContentsRow) → is_int v ≡ true
    → has_kinds (spelled gpkg_contents spelling) (contents_shape.stored v c) ≡ true
contents_kinds spelling (Int n) c h = refl
contents_kinds spelling Null c h = absurd cc
contents_kinds spelling (Real x) c h = absurd cc
contents_kinds spelling (Text t) c h = absurd cc
contents_kinds spelling (Blob b) c h = absurd cc

pub spatial_ref_sys_known : IsKnown systems spatial_ref_sys_shown
spatial_ref_sys_known = record {
  is = systems_listed;
  back =
      λ r. record {
        srs_name = text_at r 0;
        srs_id = int_at r 1;
        organization = text_at r 2;
        organization_coordsys_id = int_at r 3;
        definition = text_at r 4;
        description = text_at r 5;
      };
  returns = λ x. refl;
}

all_spatial_ref_sys_text : (spelling : Spelling) → IsSelect (codes
    "SELECT * FROM gpkg_spatial_ref_sys ORDER BY srs_id") (spelled gpkg_spatial_ref_sys spelling) always
    ((col 1 0, ascending) ∷ [])
unfolding everything
all_spatial_ref_sys_text spelling = record {
  parse = _;
  asks = _;
  src = _;
  item = _;
  parsed = refl;
  statement = refl;
  formats = refl;
  one = one_table refl refl refl refl refl refl refl refl refl refl refl refl refl refl refl;
  condition = refl;
  enough = refl;
  few = λ at. refl;
  some = λ at. refl;
  sorted = λ schema at. (_, refl, refl);
}

all_spatial_ref_sys_plan : (spelling : Spelling) → IsPlannedSelect (spelled gpkg_spatial_ref_sys spelling) always
    ((col 1 0, ascending) ∷ [])
unfolding resolving
all_spatial_ref_sys_plan spelling schema at h = rw (h.stored, h.by_tree) refl

pub all_spatial_ref_sys : IsLookUp spatial_ref_sys_shape spatial_ref_sys_shown
    (codes "SELECT * FROM gpkg_spatial_ref_sys ORDER BY srs_id") [] (λ x. true)
all_spatial_ref_sys = record {
  test = _;
  by = _;
  selects = all_spatial_ref_sys_text;
  planned = all_spatial_ref_sys_plan;
  given = refl;
  listing = _;
  is = λ spelling. refl;
  shows = λ v x. refl;
  passing = λ v x. refl;
}

pub contents_known : IsKnown contents contents_shown
contents_known = record {
  is = contents_listed;
  back = λ r. record {
    table_name = text_at r 0;
    data_type = text_at r 1;
    identifier = text_at r 2;
    description = text_at r 3;
    last_change = text_at r 4;
    min_x = int_at r 5;
    min_y = int_at r 6;
    max_x = int_at r 7;
    max_y = int_at r 8;
    srs_id = int_at r 9;
  };
  returns = λ x. refl;
}

all_contents_text : (spelling : Spelling) → IsSelect (codes "SELECT * FROM gpkg_contents ORDER BY table_name")
    (spelled gpkg_contents spelling) always ((col 1 1, ascending) ∷ [])
unfolding everything
all_contents_text spelling = record {
  parse = _;
  asks = _;
  src = _;
  item = _;
  parsed = refl;
  statement = refl;
  formats = refl;
  one = one_table refl refl refl refl refl refl refl refl refl refl refl refl refl refl refl;
  condition = refl;
  enough = refl;
  few = λ at. refl;
  some = λ at. refl;
  sorted = λ schema at. (_, refl, refl);
}

all_contents_plan : (spelling : Spelling) → IsPlannedSelect (spelled gpkg_contents spelling) always
    ((col 1 1, ascending) ∷ [])
unfolding resolving
all_contents_plan spelling schema at h = rw (h.stored, h.by_tree) refl

pub all_contents : IsLookUp contents_shape contents_shown (codes "SELECT * FROM gpkg_contents ORDER BY table_name") []
    (λ x. true)
all_contents = record {
  test = _;
  by = _;
  selects = all_contents_text;
  planned = all_contents_plan;
  given = refl;
  listing = _;
  is = λ spelling. refl;
  shows = λ v x. refl;
  passing = λ v x. refl;
}

pub tile_matrix_set_known : IsKnown matrix_sets tile_matrix_set_shown
tile_matrix_set_known = record {
  is = matrix_sets_listed;
  back =
      λ r. record {
        table_name = text_at r 0;
        srs_id = int_at r 1;
        min_x = int_at r 2;
        min_y = int_at r 3;
        max_x = int_at r 4;
        max_y = int_at r 5;
      };
  returns = λ x. refl;
}

all_tile_matrix_sets_text : (spelling : Spelling) → IsSelect
    (codes "SELECT * FROM gpkg_tile_matrix_set ORDER BY table_name") (spelled gpkg_tile_matrix_set spelling) always
    ((col 1 1, ascending) ∷ [])
unfolding everything
all_tile_matrix_sets_text spelling = record {
  parse = _;
  asks = _;
  src = _;
  item = _;
  parsed = refl;
  statement = refl;
  formats = refl;
  one = one_table refl refl refl refl refl refl refl refl refl refl refl refl refl refl refl;
  condition = refl;
  enough = refl;
  few = λ at. refl;
  some = λ at. refl;
  sorted = λ schema at. (_, refl, refl);
}

all_tile_matrix_sets_plan : (spelling : Spelling) → IsPlannedSelect (spelled gpkg_tile_matrix_set spelling) always
    ((col 1 1, ascending) ∷ [])
unfolding resolving
all_tile_matrix_sets_plan spelling schema at h = rw (h.stored, h.by_tree) refl

pub all_tile_matrix_sets : IsLookUp tile_matrix_set_shape tile_matrix_set_shown
    (codes "SELECT * FROM gpkg_tile_matrix_set ORDER BY table_name") [] (λ x. true)
all_tile_matrix_sets = record {
  test = _;
  by = _;
  selects = all_tile_matrix_sets_text;
  planned = all_tile_matrix_sets_plan;
  given = refl;
  listing = _;
  is = λ spelling. refl;
  shows = λ v x. refl;
  passing = λ v x. refl;
}

pub tile_matrix_known : IsKnown matrices tile_matrix_shown
tile_matrix_known = record {
  is = matrices_listed;
  back = λ r. record {
    table_name = text_at r 0;
    zoom_level = int_at r 1;
    matrix_width = int_at r 2;
    matrix_height = int_at r 3;
    tile_width = int_at r 4;
    tile_height = int_at r 5;
    pixel_x_size = int_at r 6;
    pixel_y_size = int_at r 7;
  };
  returns = λ x. refl;
}

all_tile_matrices_text : (spelling : Spelling) → IsSelect (codes
    "SELECT * FROM gpkg_tile_matrix ORDER BY zoom_level") (spelled gpkg_tile_matrix spelling) always
    ((col 1 2, ascending) ∷ [])
unfolding everything
all_tile_matrices_text spelling = record {
  parse = _;
  asks = _;
  src = _;
  item = _;
  parsed = refl;
  statement = refl;
  formats = refl;
  one = one_table refl refl refl refl refl refl refl refl refl refl refl refl refl refl refl;
  condition = refl;
  enough = refl;
  few = λ at. refl;
  some = λ at. refl;
  sorted = λ schema at. (_, refl, refl);
}

all_tile_matrices_plan : (spelling : Spelling) → IsPlannedSelect (spelled gpkg_tile_matrix spelling) always
    ((col 1 2, ascending) ∷ [])
unfolding resolving
all_tile_matrices_plan spelling schema at h = rw (h.stored, h.by_tree) refl

pub all_tile_matrices : IsLookUp tile_matrix_shape tile_matrix_shown
    (codes "SELECT * FROM gpkg_tile_matrix ORDER BY zoom_level") [] (λ x. true)
all_tile_matrices = record {
  test = _;
  by = _;
  selects = all_tile_matrices_text;
  planned = all_tile_matrices_plan;
  given = refl;
  listing = _;
  is = λ spelling. refl;
  shows = λ v x. refl;
  passing = λ v x. refl;
}

pub relations_known : IsKnown relations relation_shown
relations_known = record {
  is = relations_listed;
  back = λ r. record {
    id = int_at r 0;
    base_table_name = text_at r 1;
    base_primary_column = text_at r 2;
    related_table_name = text_at r 3;
    related_primary_column = text_at r 4;
    relation_name = text_at r 5;
    mapping_table_name = text_at r 6;
  };
  returns = λ x. refl;
}

all_relations_text : (spelling : Spelling) → IsSelect (codes "SELECT * FROM gpkgext_relations ORDER BY id")
    (spelled gpkgext_relations spelling) always ((col 1 0, ascending) ∷ [])
unfolding everything
all_relations_text spelling = record {
  parse = _;
  asks = _;
  src = _;
  item = _;
  parsed = refl;
  statement = refl;
  formats = refl;
  one = one_table refl refl refl refl refl refl refl refl refl refl refl refl refl refl refl;
  condition = refl;
  enough = refl;
  few = λ at. refl;
  some = λ at. refl;
  sorted = λ schema at. (_, refl, refl);
}

all_relations_plan : (spelling : Spelling) → IsPlannedSelect (spelled gpkgext_relations spelling) always
    ((col 1 0, ascending) ∷ [])
unfolding resolving
all_relations_plan spelling schema at h = rw (h.stored, h.by_tree) refl

pub all_relations : IsLookUp relation_shape relation_shown (codes "SELECT * FROM gpkgext_relations ORDER BY id") []
    (λ x. true)
all_relations = record {
  test = _;
  by = _;
  selects = all_relations_text;
  planned = all_relations_plan;
  given = refl;
  listing = _;
  is = λ spelling. refl;
  shows = λ v x. refl;
  passing = λ v x. refl;
}

pub all_spatial_ref_sys_ranked : IsRanked all_spatial_ref_sys (on (λ x. x.srs_id) int_cmp)
unfolding all_spatial_ref_sys
all_spatial_ref_sys_ranked = record {
  keys = λ x. Int x.srs_id ∷ [];
  keyed = λ v x. refl;
  total = (on_total (λ x. x.srs_id) int_cmp_total);
  alike = λ x y. one_number x.srs_id y.srs_id;
}

pub all_tile_matrices_ranked : IsRanked all_tile_matrices (on (λ x. x.zoom_level) int_cmp)
unfolding all_tile_matrices
all_tile_matrices_ranked = record {
  keys = λ x. Int x.zoom_level ∷ [];
  keyed = λ v x. refl;
  total = (on_total (λ x. x.zoom_level) int_cmp_total);
  alike = λ x y. one_number x.zoom_level y.zoom_level;
}

pub all_relations_ranked : IsRanked all_relations (on (λ x. x.id) int_cmp)
unfolding all_relations
all_relations_ranked = record {
  keys = λ x. Int x.id ∷ [];
  keyed = λ v x. refl;
  total = (on_total (λ x. x.id) int_cmp_total);
  alike = λ x y. one_number x.id y.id;
}
