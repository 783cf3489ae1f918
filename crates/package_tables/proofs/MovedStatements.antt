-- The statements on `sheet_items`.
use Rattle.std.proofs.Common.{ℕ, ℤ, List, [], ◌∷◌, codes, refl}
use Rattle.sqlite.specs.Order.{Row}
use Rattle.sqlite.specs.Edit.{next_rowid}
use Rattle.sqlite.specs.declared.types.Value.TheVariants.{Int, Text}
use Rattle.sqlite_tied.specs.Compute.{everything}
use Rattle.store_sql.proofs.Insert.{IsInsert, IsRow}
use Rattle.package_tables.specs.Tables.{sheet_items}
use Rattle.package_tables.specs.Shapes.{moved_shape}
use Rattle.package_tables.specs.declared.rows.MovedRow.{MovedRow}
use Rattle.std.proofs.Common.{true}
use Rattle.std.specs.Prelude.{◌≡◌, ◌&&◌, bytes_eq}
use Rattle.std.specs.Ordering.{int_eq}
use Rattle.sqlite.specs.Term.{col}
use Rattle.store_sql.specs.Resolving.{resolving}
use Rattle.store_sql.specs.Reading.{both, equals, always, ascending}
use Rattle.store_sql.proofs.Resolve.{one_table}
use Rattle.store_sql.proofs.Select.{IsSelect, IsPlannedSelect}
use Rattle.package_tables.specs.Shapes.{int_at, text_at}
use Rattle.package_tables.specs.Listed.{moved}
use Rattle.package_tables.specs.Shown.{moved_shown}
use Rattle.std.proofs.Common.{map}
use Rattle.store_sql.specs.Reading.{IsListing}
use Rattle.store_sql.specs.Spelling.{Spelling, spelled}
use Rattle.package_tables.specs.Calls.{Rises}
use Rattle.package_tables.proofs.Looking.{IsKnown, IsLookUp}
use Rattle.package_tables.proofs.Ranked.{ranked}
use Rattle.package_tables.proofs.Values.{same_number, same_text, both_same}
use Rattle.package_tables.proofs.Written.{moved_listed}
use Rattle.std.specs.Ordering.{on, int_cmp}
use Rattle.std.proofs.lemmas.Cmp.{on_total, int_cmp_total}
use Rattle.package_tables.proofs.Looking.{IsRanked}
use Rattle.package_tables.proofs.Ranking.{one_number}

pub insert_text : (spelling : Spelling)
    → IsInsert (codes "INSERT INTO sheet_items VALUES (?1, ?2, ?3, ?4, ?5, ?6, ?7)") (spelled sheet_items spelling)
unfolding everything
insert_text spelling = record {
  parse = _;
  rows = _;
  parsed = refl;
  statement = refl;
  formats = refl;
  named = refl;
  unstamped = refl;
  source = λ schema. refl;
}

pub insert_row : (row : MovedRow) (spelling : Spelling) (there : List Row)
    → IsRow (spelled sheet_items spelling) (Int row.seq ∷ Int row.position ∷ Int row.kind ∷ Text row.base
    ∷ Text row.other ∷ Int row.size ∷ Text row.fingerprint ∷ []) there
    (moved_shape.stored (Int (next_rowid there)) row)
insert_row row spelling there = record { source = _; laid = refl; kinds = refl; placed = λ top. refl }

pub moved_known : IsKnown moved moved_shown
moved_known = record {
  is = moved_listed;
  back = λ r. record {
    seq = int_at r 0;
    position = int_at r 1;
    kind = int_at r 2;
    base = text_at r 3;
    other = text_at r 4;
    size = int_at r 5;
    fingerprint = text_at r 6;
  };
  returns = λ x. refl;
}

moved_of_text : (spelling : Spelling)
    → IsSelect (codes "SELECT * FROM sheet_items WHERE seq = ?1 ORDER BY position") (spelled sheet_items spelling)
    (equals 0 0) ((col 1 2, ascending) ∷ [])
unfolding everything
moved_of_text spelling = record {
  parse = _;
  asks = _;
  src = _;
  item = _;
  parsed = refl;
  statement = refl;
  formats = refl;
  one = one_table refl refl refl refl refl refl refl refl refl refl refl refl refl refl refl;
  condition = (_, refl, (_, _, _, _, refl, refl, refl, refl, refl, refl, refl));
  enough = refl;
  few = λ at. refl;
  some = λ at. refl;
  sorted = λ schema at. (_, refl, refl);
}

moved_of_plan : (spelling : Spelling) → IsPlannedSelect (spelled sheet_items spelling) (equals 0 0)
    ((col 1 2, ascending) ∷ [])
unfolding resolving
moved_of_plan spelling schema at h = rw (h.stored, h.by_tree) refl

pub moved_of : (seq : ℤ) → IsLookUp moved_shape moved_shown (codes
    "SELECT * FROM sheet_items WHERE seq = ?1 ORDER BY position") (Int seq ∷ []) (λ x. int_eq x.seq seq)
moved_of seq = record {
  test = _;
  by = _;
  selects = moved_of_text;
  planned = moved_of_plan;
  given = refl;
  listing = _;
  is = λ spelling. refl;
  shows = λ v x. refl;
  passing = λ v x. same_number x.seq seq;
}

all_moved_text : (spelling : Spelling) → IsSelect (codes "SELECT * FROM sheet_items ORDER BY seq")
    (spelled sheet_items spelling) always ((col 1 1, ascending) ∷ [])
unfolding everything
all_moved_text spelling = record {
  parse = _;
  asks = _;
  src = _;
  item = _;
  parsed = refl;
  statement = refl;
  formats = refl;
  one = one_table refl refl refl refl refl refl refl refl refl refl refl refl refl refl refl;
  condition = refl;
  enough = refl;
  few = λ at. refl;
  some = λ at. refl;
  sorted = λ schema at. (_, refl, refl);
}

all_moved_plan : (spelling : Spelling) → IsPlannedSelect (spelled sheet_items spelling) always
    ((col 1 1, ascending) ∷ [])
unfolding resolving
all_moved_plan spelling schema at h = rw (h.stored, h.by_tree) refl

pub all_moved : IsLookUp moved_shape moved_shown (codes "SELECT * FROM sheet_items ORDER BY seq") [] (λ x. true)
all_moved = record {
  test = _;
  by = _;
  selects = all_moved_text;
  planned = all_moved_plan;
  given = refl;
  listing = _;
  is = λ spelling. refl;
  shows = λ v x. refl;
  passing = λ v x. refl;
}

pub moved_of_ranked : (seq : ℤ) (there rows : List Row) → IsListing (moved_of seq).listing.key
    (moved_of seq).listing.shown (moved_of seq).listing.by there rows → (xs : List MovedRow)
    → rows ≡ map moved_shown xs → Rises (λ x. x.position) xs
unfolding moved_of
moved_of_ranked seq there rows h xs are = ranked moved_shown (λ x. x.position) 1 (λ x. refl) _ _ (λ r. refl) there
    rows h xs are

pub all_moved_ranked : IsRanked all_moved (on (λ x. x.seq) int_cmp)
unfolding all_moved
all_moved_ranked = record {
  keys = λ x. Int x.seq ∷ [];
  keyed = λ v x. refl;
  total = (on_total (λ x. x.seq) int_cmp_total);
  alike = λ x y. one_number x.seq y.seq;
}

moved_of_kind_text : (spelling : Spelling) → IsSelect (codes
    "SELECT * FROM sheet_items WHERE base = ?1 AND kind = ?2") (spelled sheet_items spelling)
    (both (equals 3 0) (equals 2 1)) []
unfolding everything
moved_of_kind_text spelling = record {
  parse = _;
  asks = _;
  src = _;
  item = _;
  parsed = refl;
  statement = refl;
  formats = refl;
  one = one_table refl refl refl refl refl refl refl refl refl refl refl refl refl refl refl;
  condition = (
    _,
    refl,
    (
      _,
      _,
      refl,
      (_, _, _, _, refl, refl, refl, refl, refl, refl, refl),
      (_, _, _, _, refl, refl, refl, refl, refl, refl, refl),
    ),
  );
  enough = refl;
  few = λ at. refl;
  some = λ at. refl;
  sorted = λ schema at. (_, refl, refl);
}

moved_of_kind_plan : (spelling : Spelling) → IsPlannedSelect (spelled sheet_items spelling)
    (both (equals 3 0) (equals 2 1)) []
unfolding resolving
moved_of_kind_plan spelling schema at h = rw (h.stored, h.by_tree) refl

pub moved_of_kind : (base : List ℕ) (kind : ℤ) → IsLookUp moved_shape moved_shown
    (codes "SELECT * FROM sheet_items WHERE base = ?1 AND kind = ?2") (Text base ∷ Int kind ∷ [])
    (λ x. bytes_eq x.base base && int_eq x.kind kind)
moved_of_kind base kind = record {
  test = _;
  by = _;
  selects = moved_of_kind_text;
  planned = moved_of_kind_plan;
  given = refl;
  listing = _;
  is = λ spelling. refl;
  shows = λ v x. refl;
  passing = λ v x. both_same (same_text x.base base) (same_number x.kind kind);
}

moved_at_text : (spelling : Spelling)
    → IsSelect (codes "SELECT * FROM sheet_items WHERE seq = ?1 AND position = ?2") (spelled sheet_items spelling)
    (both (equals 0 0) (equals 1 1)) []
unfolding everything
moved_at_text spelling = record {
  parse = _;
  asks = _;
  src = _;
  item = _;
  parsed = refl;
  statement = refl;
  formats = refl;
  one = one_table refl refl refl refl refl refl refl refl refl refl refl refl refl refl refl;
  condition = (
    _,
    refl,
    (
      _,
      _,
      refl,
      (_, _, _, _, refl, refl, refl, refl, refl, refl, refl),
      (_, _, _, _, refl, refl, refl, refl, refl, refl, refl),
    ),
  );
  enough = refl;
  few = λ at. refl;
  some = λ at. refl;
  sorted = λ schema at. (_, refl, refl);
}

moved_at_plan : (spelling : Spelling) → IsPlannedSelect (spelled sheet_items spelling)
    (both (equals 0 0) (equals 1 1)) []
unfolding resolving
moved_at_plan spelling schema at h = rw (h.stored, h.by_tree) refl

pub moved_at : (seq position : ℤ) → IsLookUp moved_shape moved_shown
    (codes "SELECT * FROM sheet_items WHERE seq = ?1 AND position = ?2") (Int seq ∷ Int position ∷ [])
    (λ x. int_eq x.seq seq && int_eq x.position position)
moved_at seq position = record {
  test = _;
  by = _;
  selects = moved_at_text;
  planned = moved_at_plan;
  given = refl;
  listing = _;
  is = λ spelling. refl;
  shows = λ v x. refl;
  passing = λ v x. both_same (same_number x.seq seq) (same_number x.position position);
}
