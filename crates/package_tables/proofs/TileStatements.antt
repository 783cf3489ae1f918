-- The statements on `sheet_tiles`. Written by tools/statements.py.
use Rattle.std.proofs.Common.{ℕ, ℤ, List, [], ◌∷◌, true, codes, refl}
use Rattle.std.specs.Prelude.{◌&&◌, int_le}
use Rattle.std.specs.Ordering.{int_eq, int_cmp, on}
use Rattle.sqlite_sql.specs.declared.ops.CompareOp.TheVariants.{Ge, Le}
use Rattle.std.proofs.lemmas.Cmp.{on_total, int_cmp_total}
use Rattle.sqlite.specs.Order.{Row}
use Rattle.sqlite.specs.Term.{col}
use Rattle.sqlite.specs.declared.types.Value.TheVariants.{Int, Null, Blob}
use Rattle.sqlite_tied.specs.Compute.{everything}
use Rattle.store_sql.specs.Resolving.{resolving}
use Rattle.store_sql.specs.Reading.{always, equals, compares, both, ascending}
use Rattle.store_sql.specs.Spelling.{Spelling, spelled}
use Rattle.store_sql.proofs.Insert.{IsInsert, IsRow}
use Rattle.store_sql.proofs.Delete.{IsDelete, IsPlannedDelete}
use Rattle.store_sql.proofs.Resolve.{one_table, over_table, all_rows}
use Rattle.store_sql.proofs.Select.{IsSelect, IsPlannedSelect, IsNamed, IsPlannedNamed, asked_named}
use Rattle.package_tables.specs.Tables.{sheet_tiles}
use Rattle.package_tables.specs.Shapes.{tile_shape, int_at, blob_at}
use Rattle.package_tables.specs.Listed.{tiles}
use Rattle.package_tables.specs.Shown.{tile_shown}
use Rattle.package_tables.specs.declared.rows.TileRow.{TileRow}
use Rattle.package_tables.proofs.Looking.{IsKnown, IsLookUp, IsRanked}
use Rattle.package_tables.proofs.Numbering.{IsNumbering}
use Rattle.package_tables.proofs.Ranking.{one_number}
use Rattle.package_tables.proofs.Values.{same_number, at_least, at_most, both_same}
use Rattle.package_tables.proofs.Written.{tiles_listed}

pub insert_text : (spelling : Spelling) → IsInsert (codes "INSERT INTO sheet_tiles VALUES (?1, ?2, ?3, ?4, ?5)")
    (spelled sheet_tiles spelling)
unfolding everything
insert_text spelling = record {
  parse = _;
  rows = _;
  parsed = refl;
  statement = refl;
  formats = refl;
  named = refl;
  unstamped = refl;
  source = λ schema. refl;
}

pub insert_row : (row : TileRow) (spelling : Spelling) (there : List Row)
    → IsRow (spelled sheet_tiles spelling) (Int row.id ∷ Int row.zoom_level ∷ Int row.tile_column
    ∷ Int row.tile_row ∷ Blob row.tile_data ∷ []) there (tile_shape.stored Null row)
insert_row row spelling there = record { source = _; laid = refl; kinds = refl; placed = λ top. refl }

pub delete_text : (spelling : Spelling) → IsDelete (codes "DELETE FROM sheet_tiles WHERE id = ?1")
    (spelled sheet_tiles spelling) (equals 0 0)
unfolding everything
delete_text spelling = record {
  parse = _;
  where' = _;
  parsed = refl;
  statement = refl;
  formats = refl;
  named = refl;
  condition = (_, refl, (_, _, _, _, refl, refl, refl, refl, refl, refl, refl));
  enough = refl;
}

pub delete_plan : (spelling : Spelling) → IsPlannedDelete (spelled sheet_tiles spelling) (equals 0 0)
unfolding resolving
delete_plan spelling schema at h = rw (h.stored, h.by_tree) refl

pub known : IsKnown tiles tile_shown
known = record {
  is = tiles_listed;
  back = λ r. record {
    id = int_at r 0;
    zoom_level = int_at r 1;
    tile_column = int_at r 2;
    tile_row = int_at r 3;
    tile_data = blob_at r 4;
  };
  returns = λ x. refl;
}

tile_by_id_text : (spelling : Spelling) → IsSelect (codes "SELECT * FROM sheet_tiles WHERE id = ?1")
    (spelled sheet_tiles spelling) (equals 0 0) []
unfolding everything
tile_by_id_text spelling = record {
  parse = _;
  asks = _;
  src = _;
  item = _;
  parsed = refl;
  statement = refl;
  formats = refl;
  one = one_table refl refl refl refl refl refl refl refl refl refl refl refl refl refl refl;
  condition = (_, refl, (_, _, _, _, refl, refl, refl, refl, refl, refl, refl));
  enough = refl;
  few = λ at. refl;
  some = λ at. refl;
  sorted = λ schema at. (_, refl, refl);
}

tile_by_id_plan : (spelling : Spelling) → IsPlannedSelect (spelled sheet_tiles spelling) (equals 0 0) []
unfolding resolving
tile_by_id_plan spelling schema at h = rw (h.stored, h.by_tree) refl

pub tile_by_id : (id : ℤ) → IsLookUp tile_shape tile_shown (codes "SELECT * FROM sheet_tiles WHERE id = ?1")
    (Int id ∷ []) (λ x. int_eq x.id id)
tile_by_id id = record {
  test = _;
  by = _;
  selects = tile_by_id_text;
  planned = tile_by_id_plan;
  given = refl;
  listing = _;
  is = λ spelling. refl;
  shows = λ v x. refl;
  passing = λ v x. (same_number x.id id);
}

all_text : (spelling : Spelling) → IsSelect (codes "SELECT * FROM sheet_tiles ORDER BY id")
    (spelled sheet_tiles spelling) always ((col 1 0, ascending) ∷ [])
unfolding everything
all_text spelling = record {
  parse = _;
  asks = _;
  src = _;
  item = _;
  parsed = refl;
  statement = refl;
  formats = refl;
  one = one_table refl refl refl refl refl refl refl refl refl refl refl refl refl refl refl;
  condition = refl;
  enough = refl;
  few = λ at. refl;
  some = λ at. refl;
  sorted = λ schema at. (_, refl, refl);
}

all_plan : (spelling : Spelling) → IsPlannedSelect (spelled sheet_tiles spelling) always ((col 1 0, ascending) ∷ [])
unfolding resolving
all_plan spelling schema at h = rw (h.stored, h.by_tree) refl

pub all : IsLookUp tile_shape tile_shown (codes "SELECT * FROM sheet_tiles ORDER BY id") [] (λ x. true)
all = record {
  test = _;
  by = _;
  selects = all_text;
  planned = all_plan;
  given = refl;
  listing = _;
  is = λ spelling. refl;
  shows = λ v x. refl;
  passing = λ v x. refl;
}

pub all_ranked : IsRanked all (on (λ x. x.id) int_cmp)
unfolding all
all_ranked = record {
  keys = λ x. Int x.id ∷ [];
  keyed = λ v x. refl;
  total = (on_total (λ x. x.id) int_cmp_total);
  alike = λ x y. one_number x.id y.id;
}

ids_text : (spelling : Spelling) → IsNamed (codes "SELECT id FROM sheet_tiles") (spelled sheet_tiles spelling)
    (0 ∷ []) always [] all_rows
unfolding everything
ids_text spelling = record {
  parse = _;
  asks = _;
  src = _;
  items = _;
  parsed = refl;
  statement = refl;
  formats = refl;
  one = over_table refl refl refl refl refl refl refl refl refl refl refl refl;
  paged = λ schema. refl;
  columns = ((_, _, refl, (_, _, refl, refl, refl)), tt);
  condition = refl;
  orders = tt;
  enough = refl;
}

ids_plan : (spelling : Spelling) → IsPlannedNamed (spelled sheet_tiles spelling) (0 ∷ []) always [] all_rows
unfolding resolving
ids_plan spelling schema at h = rw (h.stored, h.by_tree) refl

pub ids : IsNumbering tile_shape (λ x. x.id) (codes "SELECT id FROM sheet_tiles") [] (λ x. true)
ids = record {
  test = _;
  project = _;
  by = _;
  asked = λ spelling. asked_named (ids_text spelling)
      (ids_plan spelling);
  given = refl;
  listing = _;
  is = λ spelling. refl;
  shows = λ v x. refl;
  passing = λ v x. refl;
}

has_tile_at_text : (spelling : Spelling)
    → IsNamed (codes "SELECT id FROM sheet_tiles WHERE zoom_level = ?1 AND tile_column = ?2 AND tile_row = ?3")
    (spelled sheet_tiles spelling) (0 ∷ []) (both (both (equals 1 0) (equals 2 1)) (equals 3 2)) [] all_rows
unfolding everything
has_tile_at_text spelling = record {
  parse = _;
  asks = _;
  src = _;
  items = _;
  parsed = refl;
  statement = refl;
  formats = refl;
  one = over_table refl refl refl refl refl refl refl refl refl refl refl refl;
  paged = λ schema. refl;
  columns = ((_, _, refl, (_, _, refl, refl, refl)), tt);
  condition = (
    _,
    refl,
    (
      _,
      _,
      refl,
      (
        _,
        _,
        refl,
        (_, _, _, _, refl, refl, refl, refl, refl, refl, refl),
        (_, _, _, _, refl, refl, refl, refl, refl, refl, refl),
      ),
      (_, _, _, _, refl, refl, refl, refl, refl, refl, refl),
    ),
  );
  orders = tt;
  enough = refl;
}

has_tile_at_plan : (spelling : Spelling) → IsPlannedNamed (spelled sheet_tiles spelling) (0 ∷ [])
    (both (both (equals 1 0) (equals 2 1)) (equals 3 2)) [] all_rows
unfolding resolving
has_tile_at_plan spelling schema at h = rw (h.stored, h.by_tree) refl

pub has_tile_at : (zoom_level : ℤ) (tile_column : ℤ) (tile_row : ℤ)
    → IsNumbering tile_shape (λ x. x.id)
    (codes "SELECT id FROM sheet_tiles WHERE zoom_level = ?1 AND tile_column = ?2 AND tile_row = ?3")
    (Int zoom_level ∷ Int tile_column ∷ Int tile_row ∷ []) (λ x. int_eq x.zoom_level zoom_level && int_eq
    x.tile_column tile_column && int_eq x.tile_row tile_row)
has_tile_at zoom_level tile_column tile_row = record {
  test = _;
  project = _;
  by = _;
  asked = λ spelling. asked_named (has_tile_at_text spelling) (has_tile_at_plan spelling);
  given = refl;
  listing = _;
  is = λ spelling. refl;
  shows = λ v x. refl;
  passing = λ v x. (both_same
      (both_same (same_number x.zoom_level zoom_level) (same_number x.tile_column tile_column))
      (same_number x.tile_row tile_row));
}

tile_ids_between_text : (spelling : Spelling) → IsNamed (codes "SELECT id FROM sheet_tiles WHERE zoom_level = ?1 AND tile_column >= ?2 AND tile_column <= ?3 AND tile_row >= ?4 AND tile_row <= ?5") (spelled sheet_tiles spelling) (0 ∷ []) (both (both (both (both (equals 1 0) (compares Ge 2 1)) (compares Le 2 2)) (compares Ge 3 3)) (compares Le 3 4)) [] all_rows
unfolding everything
tile_ids_between_text spelling = record {
  parse = _;
  asks = _;
  src = _;
  items = _;
  parsed = refl;
  statement = refl;
  formats = refl;
  one = over_table refl refl refl refl refl refl refl refl refl refl refl refl;
  paged = λ schema. refl;
  columns = ((_, _, refl, (_, _, refl, refl, refl)), tt);
  condition = (
    _,
    refl,
    (
      _,
      _,
      refl,
      (
        _,
        _,
        refl,
        (
          _,
          _,
          refl,
          (
            _,
            _,
            refl,
            (_, _, _, _, refl, refl, refl, refl, refl, refl, refl),
            (_, _, _, _, refl, refl, refl, refl, refl, refl, refl),
          ),
          (_, _, _, _, refl, refl, refl, refl, refl, refl, refl),
        ),
        (_, _, _, _, refl, refl, refl, refl, refl, refl, refl),
      ),
      (_, _, _, _, refl, refl, refl, refl, refl, refl, refl),
    ),
  );
  orders = tt;
  enough = refl;
}

tile_ids_between_plan : (spelling : Spelling) → IsPlannedNamed (spelled sheet_tiles spelling) (0 ∷ [])
    (both (both (both (both (equals 1 0) (compares Ge 2 1)) (compares Le 2 2)) (compares Ge 3 3)) (compares Le 3 4))
    [] all_rows
unfolding resolving
tile_ids_between_plan spelling schema at h = rw (h.stored, h.by_tree) refl

pub tile_ids_between : (zoom_level : ℤ) (first_column : ℤ) (last_column : ℤ) (first_row : ℤ) (last_row : ℤ) → IsNumbering tile_shape (λ x. x.id) (codes "SELECT id FROM sheet_tiles WHERE zoom_level = ?1 AND tile_column >= ?2 AND tile_column <= ?3 AND tile_row >= ?4 AND tile_row <= ?5") (Int zoom_level ∷ Int first_column ∷ Int last_column ∷ Int first_row ∷ Int last_row ∷ []) (λ x. int_eq x.zoom_level zoom_level && int_le first_column x.tile_column && int_le x.tile_column last_column && int_le first_row x.tile_row && int_le x.tile_row last_row)
tile_ids_between zoom_level first_column last_column first_row last_row =
    record {
      test = _;
      project = _;
      by = _;
      asked = λ spelling. asked_named (tile_ids_between_text spelling)
          (tile_ids_between_plan spelling);
      given = refl;
      listing = _;
      is = λ spelling. refl;
      shows = λ v x. refl;
      passing = λ v x. (both_same (both_same (both_same
          (both_same (same_number x.zoom_level zoom_level) (at_least x.tile_column first_column))
          (at_most x.tile_column last_column)) (at_least x.tile_row first_row)) (at_most x.tile_row last_row));
    }
