-- The statements on `sheet_receipts`.
use Rattle.std.proofs.Common.{ℕ, ℤ, List, [], ◌∷◌, codes, refl}
use Rattle.sqlite.specs.Order.{Row}
use Rattle.sqlite.specs.declared.types.Value.TheVariants.{Int, Null, Text}
use Rattle.sqlite_tied.specs.Compute.{everything}
use Rattle.store_sql.proofs.Insert.{IsInsert, IsRow}
use Rattle.package_tables.specs.Tables.{sheet_receipts}
use Rattle.package_tables.specs.Shapes.{receipt_shape}
use Rattle.package_tables.specs.declared.rows.ReceiptRow.{ReceiptRow}
use Rattle.std.proofs.Common.{true}
use Rattle.std.specs.Prelude.{◌&&◌, bytes_eq}
use Rattle.sqlite.specs.Term.{col}
use Rattle.store_sql.specs.Resolving.{resolving}
use Rattle.sqlite_sql.specs.declared.ops.CompareOp.TheVariants.{Gt}
use Rattle.store_sql.specs.Reading.{equals, both, compares, always, ascending}
use Rattle.store_sql.specs.Spelling.{Spelling, spelled}
use Rattle.store_sql.proofs.Resolve.{one_table, one_source}
use Rattle.store_sql.proofs.First.{IsFirst, IsPlannedFirst}
use Rattle.package_tables.proofs.Next.{IsNext}
use Rattle.store_sql.proofs.Select.{IsSelect, IsPlannedSelect}
use Rattle.package_tables.specs.Shapes.{int_at, text_at}
use Rattle.package_tables.specs.Listed.{receipts}
use Rattle.package_tables.specs.Shown.{receipt_shown}
use Rattle.package_tables.proofs.Looking.{IsKnown, IsLookUp}
use Rattle.package_tables.proofs.Values.{same_text, above_number, both_same}
use Rattle.package_tables.proofs.Written.{receipts_listed}
use Rattle.std.specs.Ordering.{on, int_cmp, is_gt}
use Rattle.std.proofs.lemmas.Cmp.{on_total, int_cmp_total}
use Rattle.package_tables.proofs.Looking.{IsRanked}
use Rattle.package_tables.proofs.Ranking.{one_number}

pub insert_text : (spelling : Spelling)
    → IsInsert (codes "INSERT INTO sheet_receipts VALUES (?1, ?2, ?3, ?4, ?5, ?6, ?7, ?8, ?9, ?10, ?11)")
    (spelled sheet_receipts spelling)
unfolding everything
insert_text spelling = record {
  parse = _;
  rows = _;
  parsed = refl;
  statement = refl;
  formats = refl;
  named = refl;
  unstamped = refl;
  source = λ schema. refl;
}

pub insert_row : (row : ReceiptRow) (spelling : Spelling) (there : List Row)
    → IsRow (spelled sheet_receipts spelling) (Int row.seq ∷ Text row.request ∷ Text row.at ∷ Text row.line
    ∷ Text row.source ∷ Text row.target ∷ Int row.n_tiles ∷ Int row.n_media ∷ Int row.n_rows
    ∷ Int row.n_links ∷ Int row.n_bytes ∷ []) there (receipt_shape.stored Null row)
insert_row row spelling there = record { source = _; laid = refl; kinds = refl; placed = λ top. refl }

pub receipts_known : IsKnown receipts receipt_shown
receipts_known = record {
  is = receipts_listed;
  back = λ r. record {
    seq = int_at r 0;
    request = text_at r 1;
    at = text_at r 2;
    line = text_at r 3;
    source = text_at r 4;
    target = text_at r 5;
    n_tiles = int_at r 6;
    n_media = int_at r 7;
    n_rows = int_at r 8;
    n_links = int_at r 9;
    n_bytes = int_at r 10;
  };
  returns = λ x. refl;
}

receipt_by_request_text : (spelling : Spelling) → IsSelect (codes "SELECT * FROM sheet_receipts WHERE request = ?1")
    (spelled sheet_receipts spelling) (equals 1 0) []
unfolding everything
receipt_by_request_text spelling = record {
  parse = _;
  asks = _;
  src = _;
  item = _;
  parsed = refl;
  statement = refl;
  formats = refl;
  one = one_table refl refl refl refl refl refl refl refl refl refl refl refl refl refl refl;
  condition = (_, refl, (_, _, _, _, refl, refl, refl, refl, refl, refl, refl));
  enough = refl;
  few = λ at. refl;
  some = λ at. refl;
  sorted = λ schema at. (_, refl, refl);
}

receipt_by_request_plan : (spelling : Spelling) → IsPlannedSelect (spelled sheet_receipts spelling) (equals 1 0) []
unfolding resolving
receipt_by_request_plan spelling schema at h = rw (h.stored, h.by_tree) refl

pub receipt_by_request : (request : List ℕ) → IsLookUp receipt_shape receipt_shown
    (codes "SELECT * FROM sheet_receipts WHERE request = ?1") (Text request ∷ []) (λ x. bytes_eq x.request request)
receipt_by_request request = record {
  test = _;
  by = _;
  selects = receipt_by_request_text;
  planned = receipt_by_request_plan;
  given = refl;
  listing = _;
  is = λ spelling. refl;
  shows = λ v x. refl;
  passing = λ v x. same_text x.request request;
}

all_receipts_text : (spelling : Spelling) → IsSelect (codes "SELECT * FROM sheet_receipts ORDER BY seq")
    (spelled sheet_receipts spelling) always ((col 1 0, ascending) ∷ [])
unfolding everything
all_receipts_text spelling = record {
  parse = _;
  asks = _;
  src = _;
  item = _;
  parsed = refl;
  statement = refl;
  formats = refl;
  one = one_table refl refl refl refl refl refl refl refl refl refl refl refl refl refl refl;
  condition = refl;
  enough = refl;
  few = λ at. refl;
  some = λ at. refl;
  sorted = λ schema at. (_, refl, refl);
}

all_receipts_plan : (spelling : Spelling) → IsPlannedSelect (spelled sheet_receipts spelling) always
    ((col 1 0, ascending) ∷ [])
unfolding resolving
all_receipts_plan spelling schema at h = rw (h.stored, h.by_tree) refl

pub all_receipts : IsLookUp receipt_shape receipt_shown (codes "SELECT * FROM sheet_receipts ORDER BY seq") []
    (λ x. true)
all_receipts = record {
  test = _;
  by = _;
  selects = all_receipts_text;
  planned = all_receipts_plan;
  given = refl;
  listing = _;
  is = λ spelling. refl;
  shows = λ v x. refl;
  passing = λ v x. refl;
}

pub all_receipts_ranked : IsRanked all_receipts (on (λ x. x.seq) int_cmp)
unfolding all_receipts
all_receipts_ranked = record {
  keys = λ x. Int x.seq ∷ [];
  keyed = λ v x. refl;
  total = (on_total (λ x. x.seq) int_cmp_total);
  alike = λ x y. one_number x.seq y.seq;
}

receipt_after_text : (spelling : Spelling)
    → IsFirst (codes "SELECT * FROM sheet_receipts WHERE seq > ?1 ORDER BY seq LIMIT 1")
    (spelled sheet_receipts spelling) (compares Gt 0 0) ((col 1 0, ascending) ∷ [])
unfolding everything
receipt_after_text spelling = record {
  parse = _;
  asks = _;
  src = _;
  item = _;
  parsed = refl;
  statement = refl;
  formats = refl;
  one = (one_source refl refl refl refl refl refl refl refl refl refl refl refl refl, λ schema. refl);
  condition = (_, refl, (_, _, _, _, refl, refl, refl, refl, refl, refl, refl));
  enough = refl;
  few = λ at. refl;
  some = λ at. refl;
  sorted = λ schema at. (_, refl, refl);
}

receipt_after_plan : (spelling : Spelling) → IsPlannedFirst (spelled sheet_receipts spelling) (compares Gt 0 0)
    ((col 1 0, ascending) ∷ [])
unfolding resolving
receipt_after_plan spelling schema at h = rw (h.stored, h.by_tree) refl

pub receipt_after : (seq : ℤ) → IsNext receipt_shape receipt_shown (λ x. x.seq)
    (codes "SELECT * FROM sheet_receipts WHERE seq > ?1 ORDER BY seq LIMIT 1") (Int seq ∷ [])
    (λ x. is_gt (int_cmp x.seq seq))
receipt_after seq = record {
  test = _;
  by = _;
  selects = receipt_after_text;
  planned = receipt_after_plan;
  given = refl;
  pass = _;
  listed = _;
  is = λ spelling. refl;
  shows = λ v x. refl;
  passing = λ v x. above_number x.seq seq;
  keyed = λ v x. refl;
}

receipt_to_after_text : (spelling : Spelling) → IsFirst (codes
    "SELECT * FROM sheet_receipts WHERE target = ?1 AND seq > ?2 ORDER BY seq LIMIT 1")
    (spelled sheet_receipts spelling) (both (equals 5 0) (compares Gt 0 1)) ((col 1 0, ascending) ∷ [])
unfolding everything
receipt_to_after_text spelling = record {
  parse = _;
  asks = _;
  src = _;
  item = _;
  parsed = refl;
  statement = refl;
  formats = refl;
  one = (one_source refl refl refl refl refl refl refl refl refl refl refl refl refl, λ schema. refl);
  condition = (
    _,
    refl,
    (
      _,
      _,
      refl,
      (_, _, _, _, refl, refl, refl, refl, refl, refl, refl),
      (_, _, _, _, refl, refl, refl, refl, refl, refl, refl),
    ),
  );
  enough = refl;
  few = λ at. refl;
  some = λ at. refl;
  sorted = λ schema at. (_, refl, refl);
}

receipt_to_after_plan : (spelling : Spelling) → IsPlannedFirst (spelled sheet_receipts spelling)
    (both (equals 5 0) (compares Gt 0 1)) ((col 1 0, ascending) ∷ [])
unfolding resolving
receipt_to_after_plan spelling schema at h = rw (h.stored, h.by_tree) refl

pub receipt_to_after : (target : List ℕ) (seq : ℤ) → IsNext receipt_shape receipt_shown (λ x. x.seq)
    (codes "SELECT * FROM sheet_receipts WHERE target = ?1 AND seq > ?2 ORDER BY seq LIMIT 1")
    (Text target ∷ Int seq ∷ []) (λ x. bytes_eq x.target target && is_gt (int_cmp x.seq seq))
receipt_to_after target seq = record {
  test = _;
  by = _;
  selects = receipt_to_after_text;
  planned = receipt_to_after_plan;
  given = refl;
  pass = _;
  listed = _;
  is = λ spelling. refl;
  shows = λ v x. refl;
  passing = λ v x. both_same (same_text x.target target) (above_number x.seq seq);
  keyed = λ v x. refl;
}
