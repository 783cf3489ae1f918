-- The statements on `rows_tiles`. Written by tools/statements.py.
use Rattle.std.proofs.Common.{ℕ, ℤ, List, [], ◌∷◌, true, codes, refl}
use Rattle.std.specs.Prelude.{◌&&◌}
use Rattle.std.specs.Ordering.{int_eq, int_cmp, on, then_cmp}
use Rattle.std.proofs.lemmas.Cmp.{on_total, then_total, int_cmp_total}
use Rattle.sqlite.specs.Order.{Row}
use Rattle.sqlite.specs.Term.{col}
use Rattle.sqlite.specs.Edit.{next_rowid}
use Rattle.sqlite.specs.declared.types.Value.TheVariants.{Int}
use Rattle.sqlite_tied.specs.Compute.{everything}
use Rattle.store_sql.specs.Resolving.{resolving}
use Rattle.store_sql.specs.Reading.{always, equals, both, ascending}
use Rattle.store_sql.specs.Spelling.{Spelling, spelled}
use Rattle.store_sql.proofs.Insert.{IsInsert, IsRow}
use Rattle.store_sql.proofs.Delete.{IsDelete, IsPlannedDelete}
use Rattle.store_sql.proofs.Resolve.{one_table}
use Rattle.store_sql.proofs.Select.{IsSelect, IsPlannedSelect}
use Rattle.package_tables.specs.Tables.{rows_tiles}
use Rattle.package_tables.specs.Shapes.{rows_tiles_shape, int_at}
use Rattle.sheet_types.specs.declared.command.Mapping.TheVariants.{RowsTiles}
use Rattle.package_tables.specs.Listed.{pairs}
use Rattle.package_tables.specs.Shown.{mapping_shown}
use Rattle.package_tables.specs.declared.rows.MappingRow.{MappingRow}
use Rattle.package_tables.proofs.Looking.{IsKnown, IsLookUp, IsRanked}
use Rattle.package_tables.proofs.Ranking.{two_numbers}
use Rattle.package_tables.proofs.Values.{same_number, both_same}
use Rattle.package_tables.proofs.Written.{pairs_listed}

pub insert_text : (spelling : Spelling) → IsInsert (codes "INSERT INTO rows_tiles VALUES (?1, ?2)")
    (spelled rows_tiles spelling)
unfolding everything
insert_text spelling = record {
  parse = _;
  rows = _;
  parsed = refl;
  statement = refl;
  formats = refl;
  named = refl;
  unstamped = refl;
  source = λ schema. refl;
}

pub insert_row : (row : MappingRow) (spelling : Spelling) (there : List Row)
    → IsRow (spelled rows_tiles spelling) (Int row.base_id ∷ Int row.related_id ∷ []) there
    (rows_tiles_shape.stored (Int (next_rowid there)) row)
insert_row row spelling there = record { source = _; laid = refl; kinds = refl; placed = λ top. refl }

pub delete_text : (spelling : Spelling)
    → IsDelete (codes "DELETE FROM rows_tiles WHERE base_id = ?1 AND related_id = ?2") (spelled rows_tiles spelling)
    (both (equals 0 0) (equals 1 1))
unfolding everything
delete_text spelling = record {
  parse = _;
  where' = _;
  parsed = refl;
  statement = refl;
  formats = refl;
  named = refl;
  condition = (
    _,
    refl,
    (
      _,
      _,
      refl,
      (_, _, _, _, refl, refl, refl, refl, refl, refl, refl),
      (_, _, _, _, refl, refl, refl, refl, refl, refl, refl),
    ),
  );
  enough = refl;
}

pub delete_plan : (spelling : Spelling) → IsPlannedDelete (spelled rows_tiles spelling)
    (both (equals 0 0) (equals 1 1))
unfolding resolving
delete_plan spelling schema at h = rw (h.stored, h.by_tree) refl

pub known : IsKnown (pairs RowsTiles) mapping_shown
known = record {
  is = pairs_listed RowsTiles;
  back = λ r. record { base_id = int_at r 0; related_id = int_at r 1 };
  returns = λ x. refl;
}

of_ends_text : (spelling : Spelling)
    → IsSelect (codes "SELECT * FROM rows_tiles WHERE base_id = ?1 AND related_id = ?2")
    (spelled rows_tiles spelling) (both (equals 0 0) (equals 1 1)) []
unfolding everything
of_ends_text spelling = record {
  parse = _;
  asks = _;
  src = _;
  item = _;
  parsed = refl;
  statement = refl;
  formats = refl;
  one = one_table refl refl refl refl refl refl refl refl refl refl refl refl refl refl refl;
  condition = (
    _,
    refl,
    (
      _,
      _,
      refl,
      (_, _, _, _, refl, refl, refl, refl, refl, refl, refl),
      (_, _, _, _, refl, refl, refl, refl, refl, refl, refl),
    ),
  );
  enough = refl;
  few = λ at. refl;
  some = λ at. refl;
  sorted = λ schema at. (_, refl, refl);
}

of_ends_plan : (spelling : Spelling) → IsPlannedSelect (spelled rows_tiles spelling)
    (both (equals 0 0) (equals 1 1)) []
unfolding resolving
of_ends_plan spelling schema at h = rw (h.stored, h.by_tree) refl

pub of_ends : (base_id : ℤ) (related_id : ℤ) → IsLookUp rows_tiles_shape mapping_shown
    (codes "SELECT * FROM rows_tiles WHERE base_id = ?1 AND related_id = ?2") (Int base_id ∷ Int related_id ∷ [])
    (λ x. int_eq x.base_id base_id && int_eq x.related_id related_id)
of_ends base_id related_id = record {
  test = _;
  by = _;
  selects = of_ends_text;
  planned = of_ends_plan;
  given = refl;
  listing = _;
  is = λ spelling. refl;
  shows = λ v x. refl;
  passing =
      λ v x. (both_same (same_number x.base_id base_id) (same_number x.related_id related_id));
}

of_base_text : (spelling : Spelling) → IsSelect (codes "SELECT * FROM rows_tiles WHERE base_id = ?1")
    (spelled rows_tiles spelling) (equals 0 0) []
unfolding everything
of_base_text spelling = record {
  parse = _;
  asks = _;
  src = _;
  item = _;
  parsed = refl;
  statement = refl;
  formats = refl;
  one = one_table refl refl refl refl refl refl refl refl refl refl refl refl refl refl refl;
  condition = (_, refl, (_, _, _, _, refl, refl, refl, refl, refl, refl, refl));
  enough = refl;
  few = λ at. refl;
  some = λ at. refl;
  sorted = λ schema at. (_, refl, refl);
}

of_base_plan : (spelling : Spelling) → IsPlannedSelect (spelled rows_tiles spelling) (equals 0 0) []
unfolding resolving
of_base_plan spelling schema at h = rw (h.stored, h.by_tree) refl

pub of_base : (base_id : ℤ) → IsLookUp rows_tiles_shape mapping_shown
    (codes "SELECT * FROM rows_tiles WHERE base_id = ?1") (Int base_id ∷ []) (λ x. int_eq x.base_id base_id)
of_base base_id = record {
  test = _;
  by = _;
  selects = of_base_text;
  planned = of_base_plan;
  given = refl;
  listing = _;
  is = λ spelling. refl;
  shows = λ v x. refl;
  passing = λ v x. (same_number x.base_id base_id);
}

of_related_text : (spelling : Spelling) → IsSelect (codes "SELECT * FROM rows_tiles WHERE related_id = ?1")
    (spelled rows_tiles spelling) (equals 1 0) []
unfolding everything
of_related_text spelling = record {
  parse = _;
  asks = _;
  src = _;
  item = _;
  parsed = refl;
  statement = refl;
  formats = refl;
  one = one_table refl refl refl refl refl refl refl refl refl refl refl refl refl refl refl;
  condition = (_, refl, (_, _, _, _, refl, refl, refl, refl, refl, refl, refl));
  enough = refl;
  few = λ at. refl;
  some = λ at. refl;
  sorted = λ schema at. (_, refl, refl);
}

of_related_plan : (spelling : Spelling) → IsPlannedSelect (spelled rows_tiles spelling) (equals 1 0) []
unfolding resolving
of_related_plan spelling schema at h = rw (h.stored, h.by_tree) refl

pub of_related : (related_id : ℤ) → IsLookUp rows_tiles_shape mapping_shown
    (codes "SELECT * FROM rows_tiles WHERE related_id = ?1") (Int related_id ∷ [])
    (λ x. int_eq x.related_id related_id)
of_related related_id = record {
  test = _;
  by = _;
  selects = of_related_text;
  planned = of_related_plan;
  given = refl;
  listing = _;
  is = λ spelling. refl;
  shows = λ v x. refl;
  passing = λ v x. (same_number x.related_id related_id);
}

all_text : (spelling : Spelling) → IsSelect (codes "SELECT * FROM rows_tiles ORDER BY base_id, related_id")
    (spelled rows_tiles spelling) always ((col 1 1, ascending) ∷ (col 1 2, ascending) ∷ [])
unfolding everything
all_text spelling = record {
  parse = _;
  asks = _;
  src = _;
  item = _;
  parsed = refl;
  statement = refl;
  formats = refl;
  one = one_table refl refl refl refl refl refl refl refl refl refl refl refl refl refl refl;
  condition = refl;
  enough = refl;
  few = λ at. refl;
  some = λ at. refl;
  sorted = λ schema at. (_, refl, refl);
}

all_plan : (spelling : Spelling) → IsPlannedSelect (spelled rows_tiles spelling) always
    ((col 1 1, ascending) ∷ (col 1 2, ascending) ∷ [])
unfolding resolving
all_plan spelling schema at h = rw (h.stored, h.by_tree) refl

pub all : IsLookUp rows_tiles_shape mapping_shown (codes "SELECT * FROM rows_tiles ORDER BY base_id, related_id") []
    (λ x. true)
all = record {
  test = _;
  by = _;
  selects = all_text;
  planned = all_plan;
  given = refl;
  listing = _;
  is = λ spelling. refl;
  shows = λ v x. refl;
  passing = λ v x. refl;
}

pub all_ranked : IsRanked all (then_cmp (on (λ x. x.base_id) int_cmp) (on (λ x. x.related_id) int_cmp))
unfolding all
all_ranked = record {
  keys = λ x. Int x.base_id ∷ Int x.related_id ∷ [];
  keyed = λ v x. refl;
  total =
      then_total (on_total (λ x. x.base_id) int_cmp_total) (on_total (λ x. x.related_id) int_cmp_total);
  alike = λ x y. two_numbers x.base_id y.base_id x.related_id y.related_id;
}
