-- The statements on `sheet_media`. Written by tools/statements.py.
use Rattle.std.proofs.Common.{ℕ, ℤ, List, [], ◌∷◌, true, codes, refl}
use Rattle.std.specs.Ordering.{int_eq, int_cmp, on}
use Rattle.std.proofs.lemmas.Cmp.{on_total, int_cmp_total}
use Rattle.sqlite.specs.Order.{Row}
use Rattle.sqlite.specs.Term.{col}
use Rattle.sqlite.specs.declared.types.Value.TheVariants.{Int, Null, Text, Blob}
use Rattle.sqlite_tied.specs.Compute.{everything}
use Rattle.store_sql.specs.Resolving.{resolving}
use Rattle.store_sql.specs.Reading.{always, equals, ascending}
use Rattle.store_sql.specs.Spelling.{Spelling, spelled}
use Rattle.store_sql.proofs.Insert.{IsInsert, IsRow}
use Rattle.store_sql.proofs.Delete.{IsDelete, IsPlannedDelete}
use Rattle.store_sql.proofs.Resolve.{one_table, over_table, all_rows}
use Rattle.store_sql.proofs.Select.{IsSelect, IsPlannedSelect, IsNamed, IsPlannedNamed, asked_named}
use Rattle.package_tables.specs.Tables.{sheet_media}
use Rattle.package_tables.specs.Shapes.{medium_shape, int_at, text_at, blob_at}
use Rattle.package_tables.specs.Listed.{media}
use Rattle.package_tables.specs.Shown.{medium_shown}
use Rattle.package_tables.specs.declared.rows.MediaRow.{MediaRow}
use Rattle.package_tables.proofs.Looking.{IsKnown, IsLookUp, IsRanked}
use Rattle.package_tables.proofs.Numbering.{IsNumbering}
use Rattle.package_tables.proofs.Ranking.{one_number}
use Rattle.package_tables.proofs.Values.{same_number}
use Rattle.package_tables.proofs.Written.{media_listed}

pub insert_text : (spelling : Spelling) → IsInsert (codes "INSERT INTO sheet_media VALUES (?1, ?2, ?3)")
    (spelled sheet_media spelling)
unfolding everything
insert_text spelling = record {
  parse = _;
  rows = _;
  parsed = refl;
  statement = refl;
  formats = refl;
  named = refl;
  unstamped = refl;
  source = λ schema. refl;
}

pub insert_row : (row : MediaRow) (spelling : Spelling) (there : List Row)
    → IsRow (spelled sheet_media spelling) (Int row.id ∷ Blob row.data ∷ Text row.content_type ∷ []) there
    (medium_shape.stored Null row)
insert_row row spelling there = record { source = _; laid = refl; kinds = refl; placed = λ top. refl }

pub delete_text : (spelling : Spelling) → IsDelete (codes "DELETE FROM sheet_media WHERE id = ?1")
    (spelled sheet_media spelling) (equals 0 0)
unfolding everything
delete_text spelling = record {
  parse = _;
  where' = _;
  parsed = refl;
  statement = refl;
  formats = refl;
  named = refl;
  condition = (_, refl, (_, _, _, _, refl, refl, refl, refl, refl, refl, refl));
  enough = refl;
}

pub delete_plan : (spelling : Spelling) → IsPlannedDelete (spelled sheet_media spelling) (equals 0 0)
unfolding resolving
delete_plan spelling schema at h = rw (h.stored, h.by_tree) refl

pub known : IsKnown media medium_shown
known = record {
  is = media_listed;
  back = λ r. record {
    id = int_at r 0;
    «data» = blob_at r 1;
    content_type = text_at r 2;
  };
  returns = λ x. refl;
}

medium_by_id_text : (spelling : Spelling) → IsSelect (codes "SELECT * FROM sheet_media WHERE id = ?1")
    (spelled sheet_media spelling) (equals 0 0) []
unfolding everything
medium_by_id_text spelling = record {
  parse = _;
  asks = _;
  src = _;
  item = _;
  parsed = refl;
  statement = refl;
  formats = refl;
  one = one_table refl refl refl refl refl refl refl refl refl refl refl refl refl refl refl;
  condition = (_, refl, (_, _, _, _, refl, refl, refl, refl, refl, refl, refl));
  enough = refl;
  few = λ at. refl;
  some = λ at. refl;
  sorted = λ schema at. (_, refl, refl);
}

medium_by_id_plan : (spelling : Spelling) → IsPlannedSelect (spelled sheet_media spelling) (equals 0 0) []
unfolding resolving
medium_by_id_plan spelling schema at h = rw (h.stored, h.by_tree) refl

pub medium_by_id : (id : ℤ) → IsLookUp medium_shape medium_shown (codes "SELECT * FROM sheet_media WHERE id = ?1")
    (Int id ∷ []) (λ x. int_eq x.id id)
medium_by_id id = record {
  test = _;
  by = _;
  selects = medium_by_id_text;
  planned = medium_by_id_plan;
  given = refl;
  listing = _;
  is = λ spelling. refl;
  shows = λ v x. refl;
  passing = λ v x. (same_number x.id id);
}

all_text : (spelling : Spelling) → IsSelect (codes "SELECT * FROM sheet_media ORDER BY id")
    (spelled sheet_media spelling) always ((col 1 0, ascending) ∷ [])
unfolding everything
all_text spelling = record {
  parse = _;
  asks = _;
  src = _;
  item = _;
  parsed = refl;
  statement = refl;
  formats = refl;
  one = one_table refl refl refl refl refl refl refl refl refl refl refl refl refl refl refl;
  condition = refl;
  enough = refl;
  few = λ at. refl;
  some = λ at. refl;
  sorted = λ schema at. (_, refl, refl);
}

all_plan : (spelling : Spelling) → IsPlannedSelect (spelled sheet_media spelling) always ((col 1 0, ascending) ∷ [])
unfolding resolving
all_plan spelling schema at h = rw (h.stored, h.by_tree) refl

pub all : IsLookUp medium_shape medium_shown (codes "SELECT * FROM sheet_media ORDER BY id") [] (λ x. true)
all = record {
  test = _;
  by = _;
  selects = all_text;
  planned = all_plan;
  given = refl;
  listing = _;
  is = λ spelling. refl;
  shows = λ v x. refl;
  passing = λ v x. refl;
}

pub all_ranked : IsRanked all (on (λ x. x.id) int_cmp)
unfolding all
all_ranked = record {
  keys = λ x. Int x.id ∷ [];
  keyed = λ v x. refl;
  total = (on_total (λ x. x.id) int_cmp_total);
  alike = λ x y. one_number x.id y.id;
}

ids_text : (spelling : Spelling) → IsNamed (codes "SELECT id FROM sheet_media") (spelled sheet_media spelling)
    (0 ∷ []) always [] all_rows
unfolding everything
ids_text spelling = record {
  parse = _;
  asks = _;
  src = _;
  items = _;
  parsed = refl;
  statement = refl;
  formats = refl;
  one = over_table refl refl refl refl refl refl refl refl refl refl refl refl;
  paged = λ schema. refl;
  columns = ((_, _, refl, (_, _, refl, refl, refl)), tt);
  condition = refl;
  orders = tt;
  enough = refl;
}

ids_plan : (spelling : Spelling) → IsPlannedNamed (spelled sheet_media spelling) (0 ∷ []) always [] all_rows
unfolding resolving
ids_plan spelling schema at h = rw (h.stored, h.by_tree) refl

pub ids : IsNumbering medium_shape (λ x. x.id) (codes "SELECT id FROM sheet_media") [] (λ x. true)
ids = record {
  test = _;
  project = _;
  by = _;
  asked = λ spelling. asked_named (ids_text spelling)
      (ids_plan spelling);
  given = refl;
  listing = _;
  is = λ spelling. refl;
  shows = λ v x. refl;
  passing = λ v x. refl;
}
