-- The statements on `sheet_rows`. Written by tools/statements.py.
use Rattle.std.proofs.Common.{ℕ, ℤ, List, [], ◌∷◌, true, codes, refl}
use Rattle.std.specs.Prelude.{◌&&◌, int_le, int_lt}
use Rattle.std.specs.Ordering.{int_eq, int_cmp, on}
use Rattle.sqlite_sql.specs.declared.ops.CompareOp.TheVariants.{Ge, Le, Gt, Lt}
use Rattle.std.proofs.lemmas.Cmp.{on_total, int_cmp_total}
use Rattle.sqlite.specs.Order.{Row}
use Rattle.sqlite.specs.Term.{col}
use Rattle.sqlite.specs.declared.types.Value.TheVariants.{Int, Null, Text}
use Rattle.sqlite_tied.specs.Compute.{everything}
use Rattle.store_sql.specs.Resolving.{resolving}
use Rattle.store_sql.specs.Reading.{always, equals, compares, both, ascending}
use Rattle.store_sql.specs.Spelling.{Spelling, spelled}
use Rattle.store_sql.proofs.Insert.{IsInsert, IsRow}
use Rattle.store_sql.proofs.Delete.{IsDelete, IsPlannedDelete}
use Rattle.store_sql.proofs.Resolve.{one_table, over_table, all_rows}
use Rattle.store_sql.proofs.Select.{IsSelect, IsPlannedSelect, IsNamed, IsPlannedNamed, asked_named}
use Rattle.package_tables.specs.Tables.{sheet_rows}
use Rattle.package_tables.specs.Shapes.{attribute_shape, int_at, text_at}
use Rattle.package_tables.specs.Listed.{attributes}
use Rattle.package_tables.specs.Shown.{attribute_shown}
use Rattle.package_tables.specs.declared.rows.AttributeRow.{AttributeRow}
use Rattle.package_tables.proofs.Looking.{IsKnown, IsLookUp, IsRanked}
use Rattle.package_tables.proofs.Numbering.{IsNumbering}
use Rattle.package_tables.proofs.Ranking.{one_number}
use Rattle.package_tables.proofs.Values.{same_number, at_least, at_most, above, below, both_same}
use Rattle.package_tables.proofs.Written.{attributes_listed}

pub insert_text : (spelling : Spelling) → IsInsert (codes "INSERT INTO sheet_rows VALUES (?1, ?2, ?3, ?4, ?5)")
    (spelled sheet_rows spelling)
unfolding everything
insert_text spelling = record {
  parse = _;
  rows = _;
  parsed = refl;
  statement = refl;
  formats = refl;
  named = refl;
  unstamped = refl;
  source = λ schema. refl;
}

pub insert_row : (row : AttributeRow) (spelling : Spelling) (there : List Row)
    → IsRow (spelled sheet_rows spelling) (Int row.id ∷ Int row.x ∷ Int row.y ∷ Int row.code
    ∷ Text row.label ∷ []) there (attribute_shape.stored Null row)
insert_row row spelling there = record { source = _; laid = refl; kinds = refl; placed = λ top. refl }

pub delete_text : (spelling : Spelling) → IsDelete (codes "DELETE FROM sheet_rows WHERE id = ?1")
    (spelled sheet_rows spelling) (equals 0 0)
unfolding everything
delete_text spelling = record {
  parse = _;
  where' = _;
  parsed = refl;
  statement = refl;
  formats = refl;
  named = refl;
  condition = (_, refl, (_, _, _, _, refl, refl, refl, refl, refl, refl, refl));
  enough = refl;
}

pub delete_plan : (spelling : Spelling) → IsPlannedDelete (spelled sheet_rows spelling) (equals 0 0)
unfolding resolving
delete_plan spelling schema at h = rw (h.stored, h.by_tree) refl

pub known : IsKnown attributes attribute_shown
known = record {
  is = attributes_listed;
  back = λ r. record {
    id = int_at r 0;
    x = int_at r 1;
    y = int_at r 2;
    code = int_at r 3;
    label = text_at r 4;
  };
  returns = λ x. refl;
}

attribute_by_id_text : (spelling : Spelling) → IsSelect (codes "SELECT * FROM sheet_rows WHERE id = ?1")
    (spelled sheet_rows spelling) (equals 0 0) []
unfolding everything
attribute_by_id_text spelling = record {
  parse = _;
  asks = _;
  src = _;
  item = _;
  parsed = refl;
  statement = refl;
  formats = refl;
  one = one_table refl refl refl refl refl refl refl refl refl refl refl refl refl refl refl;
  condition = (_, refl, (_, _, _, _, refl, refl, refl, refl, refl, refl, refl));
  enough = refl;
  few = λ at. refl;
  some = λ at. refl;
  sorted = λ schema at. (_, refl, refl);
}

attribute_by_id_plan : (spelling : Spelling) → IsPlannedSelect (spelled sheet_rows spelling) (equals 0 0) []
unfolding resolving
attribute_by_id_plan spelling schema at h = rw (h.stored, h.by_tree) refl

pub attribute_by_id : (id : ℤ) → IsLookUp attribute_shape attribute_shown
    (codes "SELECT * FROM sheet_rows WHERE id = ?1") (Int id ∷ []) (λ x. int_eq x.id id)
attribute_by_id id = record {
  test = _;
  by = _;
  selects = attribute_by_id_text;
  planned = attribute_by_id_plan;
  given = refl;
  listing = _;
  is = λ spelling. refl;
  shows = λ v x. refl;
  passing = λ v x. (same_number x.id id);
}

all_text : (spelling : Spelling) → IsSelect (codes "SELECT * FROM sheet_rows ORDER BY id")
    (spelled sheet_rows spelling) always ((col 1 0, ascending) ∷ [])
unfolding everything
all_text spelling = record {
  parse = _;
  asks = _;
  src = _;
  item = _;
  parsed = refl;
  statement = refl;
  formats = refl;
  one = one_table refl refl refl refl refl refl refl refl refl refl refl refl refl refl refl;
  condition = refl;
  enough = refl;
  few = λ at. refl;
  some = λ at. refl;
  sorted = λ schema at. (_, refl, refl);
}

all_plan : (spelling : Spelling) → IsPlannedSelect (spelled sheet_rows spelling) always ((col 1 0, ascending) ∷ [])
unfolding resolving
all_plan spelling schema at h = rw (h.stored, h.by_tree) refl

pub all : IsLookUp attribute_shape attribute_shown (codes "SELECT * FROM sheet_rows ORDER BY id") [] (λ x. true)
all = record {
  test = _;
  by = _;
  selects = all_text;
  planned = all_plan;
  given = refl;
  listing = _;
  is = λ spelling. refl;
  shows = λ v x. refl;
  passing = λ v x. refl;
}

pub all_ranked : IsRanked all (on (λ x. x.id) int_cmp)
unfolding all
all_ranked = record {
  keys = λ x. Int x.id ∷ [];
  keyed = λ v x. refl;
  total = (on_total (λ x. x.id) int_cmp_total);
  alike = λ x y. one_number x.id y.id;
}

ids_text : (spelling : Spelling) → IsNamed (codes "SELECT id FROM sheet_rows") (spelled sheet_rows spelling)
    (0 ∷ []) always [] all_rows
unfolding everything
ids_text spelling = record {
  parse = _;
  asks = _;
  src = _;
  items = _;
  parsed = refl;
  statement = refl;
  formats = refl;
  one = over_table refl refl refl refl refl refl refl refl refl refl refl refl;
  paged = λ schema. refl;
  columns = ((_, _, refl, (_, _, refl, refl, refl)), tt);
  condition = refl;
  orders = tt;
  enough = refl;
}

ids_plan : (spelling : Spelling) → IsPlannedNamed (spelled sheet_rows spelling) (0 ∷ []) always [] all_rows
unfolding resolving
ids_plan spelling schema at h = rw (h.stored, h.by_tree) refl

pub ids : IsNumbering attribute_shape (λ x. x.id) (codes "SELECT id FROM sheet_rows") [] (λ x. true)
ids = record {
  test = _;
  project = _;
  by = _;
  asked = λ spelling. asked_named (ids_text spelling)
      (ids_plan spelling);
  given = refl;
  listing = _;
  is = λ spelling. refl;
  shows = λ v x. refl;
  passing = λ v x. refl;
}

attribute_ids_within_text : (spelling : Spelling) → IsNamed (codes
    "SELECT id FROM sheet_rows WHERE x >= ?1 AND x < ?2 AND y > ?3 AND y <= ?4") (spelled sheet_rows spelling)
    (0 ∷ []) (both (both (both (compares Ge 1 0) (compares Lt 1 1)) (compares Gt 2 2)) (compares Le 2 3)) []
    all_rows
unfolding everything
attribute_ids_within_text spelling = record {
  parse = _;
  asks = _;
  src = _;
  items = _;
  parsed = refl;
  statement = refl;
  formats = refl;
  one = over_table refl refl refl refl refl refl refl refl refl refl refl refl;
  paged = λ schema. refl;
  columns = ((_, _, refl, (_, _, refl, refl, refl)), tt);
  condition = (
    _,
    refl,
    (
      _,
      _,
      refl,
      (
        _,
        _,
        refl,
        (
          _,
          _,
          refl,
          (_, _, _, _, refl, refl, refl, refl, refl, refl, refl),
          (_, _, _, _, refl, refl, refl, refl, refl, refl, refl),
        ),
        (_, _, _, _, refl, refl, refl, refl, refl, refl, refl),
      ),
      (_, _, _, _, refl, refl, refl, refl, refl, refl, refl),
    ),
  );
  orders = tt;
  enough = refl;
}

attribute_ids_within_plan : (spelling : Spelling) → IsPlannedNamed (spelled sheet_rows spelling) (0 ∷ [])
    (both (both (both (compares Ge 1 0) (compares Lt 1 1)) (compares Gt 2 2)) (compares Le 2 3)) [] all_rows
unfolding resolving
attribute_ids_within_plan spelling schema at h = rw (h.stored, h.by_tree) refl

pub attribute_ids_within : (west : ℤ) (east : ℤ) (south : ℤ) (north : ℤ)
    → IsNumbering attribute_shape (λ x. x.id)
    (codes "SELECT id FROM sheet_rows WHERE x >= ?1 AND x < ?2 AND y > ?3 AND y <= ?4")
    (Int west ∷ Int east ∷ Int south ∷ Int north ∷ []) (λ x. int_le west x.x && int_lt x.x east && int_lt
    south x.y && int_le x.y north)
attribute_ids_within west east south north = record {
  test = _;
  project = _;
  by = _;
  asked =
      λ spelling. asked_named (attribute_ids_within_text spelling) (attribute_ids_within_plan spelling);
  given = refl;
  listing = _;
  is = λ spelling. refl;
  shows = λ v x. refl;
  passing =
      λ v x. (both_same (both_same (both_same (at_least x.x west) (below x.x east)) (above x.y south))
      (at_most x.y north));
}
