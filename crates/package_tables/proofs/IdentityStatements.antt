-- The statements on `sheet_identity`. Written by tools/statements.py.
use Rattle.std.proofs.Common.{ℕ, ℤ, List, [], ◌∷◌, true, codes, refl}
use Rattle.std.specs.Prelude.{◌&&◌, bytes_eq}
use Rattle.std.specs.Ordering.{int_eq, int_cmp, on, then_cmp}
use Rattle.std.proofs.lemmas.Cmp.{on_total, then_total, int_cmp_total}
use Rattle.sqlite.specs.Order.{Row}
use Rattle.sqlite.specs.Term.{col}
use Rattle.sqlite.specs.Edit.{next_rowid}
use Rattle.sqlite.specs.declared.types.Value.TheVariants.{Int, Text}
use Rattle.sqlite_tied.specs.Compute.{everything}
use Rattle.store_sql.specs.Resolving.{resolving}
use Rattle.store_sql.specs.Reading.{always, equals, both, ascending, descending}
use Rattle.store_sql.specs.Spelling.{Spelling, spelled}
use Rattle.store_sql.proofs.Insert.{IsInsert, IsRow}
use Rattle.store_sql.proofs.Delete.{IsDelete, IsPlannedDelete}
use Rattle.store_sql.proofs.Resolve.{one_table, over_table}
use Rattle.store_sql.proofs.Select.{IsSelect, IsPlannedSelect, IsNamed, IsPlannedNamed, asked_named}
use Rattle.store_sql.proofs.First.{one_row}
use Rattle.package_tables.specs.Tables.{sheet_identity}
use Rattle.package_tables.specs.Shapes.{identity_shape, int_at, text_at}
use Rattle.package_tables.specs.Listed.{identities}
use Rattle.package_tables.specs.Shown.{identity_shown}
use Rattle.package_tables.specs.declared.rows.IdentityRow.{IdentityRow}
use Rattle.package_tables.proofs.Looking.{IsKnown, IsLookUp, IsRanked}
use Rattle.package_tables.proofs.Newest.{IsNewest}
use Rattle.package_tables.proofs.Ranking.{two_numbers}
use Rattle.package_tables.proofs.Values.{same_number, same_text, both_same}
use Rattle.package_tables.proofs.Written.{identities_listed}

pub insert_text : (spelling : Spelling) → IsInsert (codes "INSERT INTO sheet_identity VALUES (?1, ?2, ?3)")
    (spelled sheet_identity spelling)
unfolding everything
insert_text spelling = record {
  parse = _;
  rows = _;
  parsed = refl;
  statement = refl;
  formats = refl;
  named = refl;
  unstamped = refl;
  source = λ schema. refl;
}

pub insert_row : (row : IdentityRow) (spelling : Spelling) (there : List Row)
    → IsRow (spelled sheet_identity spelling) (Int row.kind ∷ Int row.local_id ∷ Text row.uuid ∷ []) there
    (identity_shape.stored (Int (next_rowid there)) row)
insert_row row spelling there = record { source = _; laid = refl; kinds = refl; placed = λ top. refl }

pub delete_text : (spelling : Spelling)
    → IsDelete (codes "DELETE FROM sheet_identity WHERE kind = ?1 AND local_id = ?2")
    (spelled sheet_identity spelling) (both (equals 0 0) (equals 1 1))
unfolding everything
delete_text spelling = record {
  parse = _;
  where' = _;
  parsed = refl;
  statement = refl;
  formats = refl;
  named = refl;
  condition = (
    _,
    refl,
    (
      _,
      _,
      refl,
      (_, _, _, _, refl, refl, refl, refl, refl, refl, refl),
      (_, _, _, _, refl, refl, refl, refl, refl, refl, refl),
    ),
  );
  enough = refl;
}

pub delete_plan : (spelling : Spelling) → IsPlannedDelete (spelled sheet_identity spelling)
    (both (equals 0 0) (equals 1 1))
unfolding resolving
delete_plan spelling schema at h = rw (h.stored, h.by_tree) refl

pub known : IsKnown identities identity_shown
known = record {
  is = identities_listed;
  back = λ r. record {
    kind = int_at r 0;
    local_id = int_at r 1;
    uuid = text_at r 2;
  };
  returns = λ x. refl;
}

identity_by_uuid_text : (spelling : Spelling) → IsSelect (codes "SELECT * FROM sheet_identity WHERE uuid = ?1")
    (spelled sheet_identity spelling) (equals 2 0) []
unfolding everything
identity_by_uuid_text spelling = record {
  parse = _;
  asks = _;
  src = _;
  item = _;
  parsed = refl;
  statement = refl;
  formats = refl;
  one = one_table refl refl refl refl refl refl refl refl refl refl refl refl refl refl refl;
  condition = (_, refl, (_, _, _, _, refl, refl, refl, refl, refl, refl, refl));
  enough = refl;
  few = λ at. refl;
  some = λ at. refl;
  sorted = λ schema at. (_, refl, refl);
}

identity_by_uuid_plan : (spelling : Spelling) → IsPlannedSelect (spelled sheet_identity spelling) (equals 2 0) []
unfolding resolving
identity_by_uuid_plan spelling schema at h = rw (h.stored, h.by_tree) refl

pub identity_by_uuid : (uuid : List ℕ) → IsLookUp identity_shape identity_shown
    (codes "SELECT * FROM sheet_identity WHERE uuid = ?1") (Text uuid ∷ []) (λ x. bytes_eq x.uuid uuid)
identity_by_uuid uuid = record {
  test = _;
  by = _;
  selects = identity_by_uuid_text;
  planned = identity_by_uuid_plan;
  given = refl;
  listing = _;
  is = λ spelling. refl;
  shows = λ v x. refl;
  passing = λ v x. (same_text x.uuid uuid);
}

identity_by_key_text : (spelling : Spelling) → IsSelect (codes
    "SELECT * FROM sheet_identity WHERE kind = ?1 AND local_id = ?2") (spelled sheet_identity spelling)
    (both (equals 0 0) (equals 1 1)) []
unfolding everything
identity_by_key_text spelling = record {
  parse = _;
  asks = _;
  src = _;
  item = _;
  parsed = refl;
  statement = refl;
  formats = refl;
  one = one_table refl refl refl refl refl refl refl refl refl refl refl refl refl refl refl;
  condition = (
    _,
    refl,
    (
      _,
      _,
      refl,
      (_, _, _, _, refl, refl, refl, refl, refl, refl, refl),
      (_, _, _, _, refl, refl, refl, refl, refl, refl, refl),
    ),
  );
  enough = refl;
  few = λ at. refl;
  some = λ at. refl;
  sorted = λ schema at. (_, refl, refl);
}

identity_by_key_plan : (spelling : Spelling) → IsPlannedSelect (spelled sheet_identity spelling)
    (both (equals 0 0) (equals 1 1)) []
unfolding resolving
identity_by_key_plan spelling schema at h = rw (h.stored, h.by_tree) refl

pub identity_by_key : (kind : ℤ) (local_id : ℤ) → IsLookUp identity_shape identity_shown
    (codes "SELECT * FROM sheet_identity WHERE kind = ?1 AND local_id = ?2") (Int kind ∷ Int local_id ∷ [])
    (λ x. int_eq x.kind kind && int_eq x.local_id local_id)
identity_by_key kind local_id = record {
  test = _;
  by = _;
  selects = identity_by_key_text;
  planned = identity_by_key_plan;
  given = refl;
  listing = _;
  is = λ spelling. refl;
  shows = λ v x. refl;
  passing = λ v x. (both_same (same_number x.kind kind) (same_number x.local_id local_id));
}

all_text : (spelling : Spelling) → IsSelect (codes "SELECT * FROM sheet_identity ORDER BY kind, local_id")
    (spelled sheet_identity spelling) always ((col 1 1, ascending) ∷ (col 1 2, ascending) ∷ [])
unfolding everything
all_text spelling = record {
  parse = _;
  asks = _;
  src = _;
  item = _;
  parsed = refl;
  statement = refl;
  formats = refl;
  one = one_table refl refl refl refl refl refl refl refl refl refl refl refl refl refl refl;
  condition = refl;
  enough = refl;
  few = λ at. refl;
  some = λ at. refl;
  sorted = λ schema at. (_, refl, refl);
}

all_plan : (spelling : Spelling) → IsPlannedSelect (spelled sheet_identity spelling) always
    ((col 1 1, ascending) ∷ (col 1 2, ascending) ∷ [])
unfolding resolving
all_plan spelling schema at h = rw (h.stored, h.by_tree) refl

pub all : IsLookUp identity_shape identity_shown (codes "SELECT * FROM sheet_identity ORDER BY kind, local_id") []
    (λ x. true)
all = record {
  test = _;
  by = _;
  selects = all_text;
  planned = all_plan;
  given = refl;
  listing = _;
  is = λ spelling. refl;
  shows = λ v x. refl;
  passing = λ v x. refl;
}

pub all_ranked : IsRanked all (then_cmp (on (λ x. x.kind) int_cmp) (on (λ x. x.local_id) int_cmp))
unfolding all
all_ranked = record {
  keys = λ x. Int x.kind ∷ Int x.local_id ∷ [];
  keyed = λ v x. refl;
  total =
      then_total (on_total (λ x. x.kind) int_cmp_total) (on_total (λ x. x.local_id) int_cmp_total);
  alike = λ x y. two_numbers x.kind y.kind x.local_id y.local_id;
}

newest_text : (spelling : Spelling)
    → IsNamed (codes "SELECT local_id FROM sheet_identity WHERE kind = ?1 ORDER BY local_id DESC LIMIT 1")
    (spelled sheet_identity spelling) (1 ∷ []) (equals 0 0) ((col 1 2, descending) ∷ []) one_row
unfolding everything
newest_text spelling = record {
  parse = _;
  asks = _;
  src = _;
  items = _;
  parsed = refl;
  statement = refl;
  formats = refl;
  one = over_table refl refl refl refl refl refl refl refl refl refl refl refl;
  paged = λ schema. refl;
  columns = ((_, _, refl, (_, _, refl, refl, refl)), tt);
  condition = (_, refl, (_, _, _, _, refl, refl, refl, refl, refl, refl, refl));
  orders = ((_, (_, _, refl, refl, refl), refl, refl), tt);
  enough = refl;
}

newest_plan : (spelling : Spelling) → IsPlannedNamed (spelled sheet_identity spelling) (1 ∷ []) (equals 0 0)
    ((col 1 2, descending) ∷ []) one_row
unfolding resolving
newest_plan spelling schema at h = rw (h.stored, h.by_tree) refl

pub newest : (kind : ℤ) → IsNewest identity_shape (λ x. x.local_id)
    (codes "SELECT local_id FROM sheet_identity WHERE kind = ?1 ORDER BY local_id DESC LIMIT 1") (Int kind ∷ [])
    (λ x. int_eq x.kind kind)
newest kind = record {
  test = _;
  project = _;
  by = _;
  asked = λ spelling. asked_named (newest_text spelling) (newest_plan spelling);
  given = refl;
  pass = _;
  shown = _;
  place = 2;
  is = λ spelling. refl;
  passing = λ v x. (same_number x.kind kind);
  begins = λ v x. refl;
  keyed = λ v x. refl;
}
