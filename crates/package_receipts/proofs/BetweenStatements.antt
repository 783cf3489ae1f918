-- The statements that read the rows of both tables by the numbers of receipts.
use Rattle.std.proofs.Common.{ℤ, [], ◌∷◌, true, codes, refl}
use Rattle.std.specs.Prelude.{◌&&◌, int_le, int_lt}
use Rattle.sqlite_sql.specs.declared.ops.CompareOp.TheVariants.{Gt, Le}
use Rattle.sqlite.specs.Term.{col}
use Rattle.sqlite.specs.declared.types.Value.TheVariants.{Int}
use Rattle.sqlite_tied.specs.Compute.{everything}
use Rattle.store_sql.specs.Resolving.{resolving}
use Rattle.store_sql.specs.Reading.{always, compares, both, ascending}
use Rattle.store_sql.specs.Spelling.{Spelling, spelled}
use Rattle.store_sql.proofs.Resolve.{one_table, over_table, all_rows}
use Rattle.store_sql.proofs.Select.{IsSelect, IsPlannedSelect, IsNamed, IsPlannedNamed, asked_named}
use Rattle.package_tables.specs.Tables.{sheet_receipts, sheet_items}
use Rattle.package_tables.specs.Shapes.{receipt_shape, moved_shape}
use Rattle.package_tables.specs.Shown.{receipt_shown, moved_shown}
use Rattle.package_tables.proofs.Looking.{IsLookUp}
use Rattle.package_tables.proofs.Numbering.{IsNumbering}
use Rattle.package_tables.proofs.Values.{above, at_most, both_same}

-- ---- the numbers of receipts

numbers_text : (spelling : Spelling) → IsNamed (codes "SELECT seq FROM sheet_receipts")
    (spelled sheet_receipts spelling) (0 ∷ []) always [] all_rows
unfolding everything
numbers_text spelling = record {
  parse = _;
  asks = _;
  src = _;
  items = _;
  parsed = refl;
  statement = refl;
  formats = refl;
  one = over_table refl refl refl refl refl refl refl refl refl refl refl refl;
  paged = λ schema. refl;
  columns = ((_, _, refl, (_, _, refl, refl, refl)), tt);
  condition = refl;
  orders = tt;
  enough = refl;
}

numbers_plan : (spelling : Spelling) → IsPlannedNamed (spelled sheet_receipts spelling) (0 ∷ []) always [] all_rows
unfolding resolving
numbers_plan spelling schema at h = rw (h.stored, h.by_tree) refl

pub numbers : IsNumbering receipt_shape (λ x. x.seq) (codes "SELECT seq FROM sheet_receipts") [] (λ x. true)
numbers = record {
  test = _;
  project = _;
  by = _;
  asked = λ spelling. asked_named (numbers_text spelling) (numbers_plan spelling);
  given = refl;
  listing = _;
  is = λ spelling. refl;
  shows = λ v x. refl;
  passing = λ v x. refl;
}

-- ---- receipts

receipts_to_text : (spelling : Spelling)
    → IsSelect (codes "SELECT * FROM sheet_receipts WHERE seq <= ?1 ORDER BY seq")
    (spelled sheet_receipts spelling) (compares Le 0 0) ((col 1 0, ascending) ∷ [])
unfolding everything
receipts_to_text spelling = record {
  parse = _;
  asks = _;
  src = _;
  item = _;
  parsed = refl;
  statement = refl;
  formats = refl;
  one = one_table refl refl refl refl refl refl refl refl refl refl refl refl refl refl refl;
  condition = (_, refl, (_, _, _, _, refl, refl, refl, refl, refl, refl, refl));
  enough = refl;
  few = λ at. refl;
  some = λ at. refl;
  sorted = λ schema at. (_, refl, refl);
}

receipts_to_plan : (spelling : Spelling) → IsPlannedSelect (spelled sheet_receipts spelling) (compares Le 0 0)
    ((col 1 0, ascending) ∷ [])
unfolding resolving
receipts_to_plan spelling schema at h = rw (h.stored, h.by_tree) refl

pub receipts_to : (last : ℤ) → IsLookUp receipt_shape receipt_shown
    (codes "SELECT * FROM sheet_receipts WHERE seq <= ?1 ORDER BY seq") (Int last ∷ [])
    (λ x. int_le x.seq last)
receipts_to last = record {
  test = _;
  by = _;
  selects = receipts_to_text;
  planned = receipts_to_plan;
  given = refl;
  listing = _;
  is = λ spelling. refl;
  shows = λ v x. refl;
  passing = λ v x. at_most x.seq last;
}

receipts_after_text : (spelling : Spelling)
    → IsSelect (codes "SELECT * FROM sheet_receipts WHERE seq > ?1 ORDER BY seq")
    (spelled sheet_receipts spelling) (compares Gt 0 0) ((col 1 0, ascending) ∷ [])
unfolding everything
receipts_after_text spelling = record {
  parse = _;
  asks = _;
  src = _;
  item = _;
  parsed = refl;
  statement = refl;
  formats = refl;
  one = one_table refl refl refl refl refl refl refl refl refl refl refl refl refl refl refl;
  condition = (_, refl, (_, _, _, _, refl, refl, refl, refl, refl, refl, refl));
  enough = refl;
  few = λ at. refl;
  some = λ at. refl;
  sorted = λ schema at. (_, refl, refl);
}

receipts_after_plan : (spelling : Spelling) → IsPlannedSelect (spelled sheet_receipts spelling) (compares Gt 0 0)
    ((col 1 0, ascending) ∷ [])
unfolding resolving
receipts_after_plan spelling schema at h = rw (h.stored, h.by_tree) refl

pub receipts_after : (before : ℤ) → IsLookUp receipt_shape receipt_shown
    (codes "SELECT * FROM sheet_receipts WHERE seq > ?1 ORDER BY seq") (Int before ∷ [])
    (λ x. int_lt before x.seq)
receipts_after before = record {
  test = _;
  by = _;
  selects = receipts_after_text;
  planned = receipts_after_plan;
  given = refl;
  listing = _;
  is = λ spelling. refl;
  shows = λ v x. refl;
  passing = λ v x. above x.seq before;
}

receipts_within_text : (spelling : Spelling)
    → IsSelect (codes "SELECT * FROM sheet_receipts WHERE seq > ?1 AND seq <= ?2 ORDER BY seq")
    (spelled sheet_receipts spelling) (both (compares Gt 0 0) (compares Le 0 1)) ((col 1 0, ascending) ∷ [])
unfolding everything
receipts_within_text spelling = record {
  parse = _;
  asks = _;
  src = _;
  item = _;
  parsed = refl;
  statement = refl;
  formats = refl;
  one = one_table refl refl refl refl refl refl refl refl refl refl refl refl refl refl refl;
  condition = (
    _,
    refl,
    (
      _,
      _,
      refl,
      (_, _, _, _, refl, refl, refl, refl, refl, refl, refl),
      (_, _, _, _, refl, refl, refl, refl, refl, refl, refl),
    ),
  );
  enough = refl;
  few = λ at. refl;
  some = λ at. refl;
  sorted = λ schema at. (_, refl, refl);
}

receipts_within_plan : (spelling : Spelling) → IsPlannedSelect (spelled sheet_receipts spelling)
    (both (compares Gt 0 0) (compares Le 0 1))
    ((col 1 0, ascending) ∷ [])
unfolding resolving
receipts_within_plan spelling schema at h = rw (h.stored, h.by_tree) refl

pub receipts_within : (before last : ℤ) → IsLookUp receipt_shape receipt_shown
    (codes "SELECT * FROM sheet_receipts WHERE seq > ?1 AND seq <= ?2 ORDER BY seq") (Int before ∷ Int last ∷ [])
    (λ x. int_lt before x.seq && int_le x.seq last)
receipts_within before last = record {
  test = _;
  by = _;
  selects = receipts_within_text;
  planned = receipts_within_plan;
  given = refl;
  listing = _;
  is = λ spelling. refl;
  shows = λ v x. refl;
  passing = λ v x. both_same (above x.seq before) (at_most x.seq last);
}

-- ---- what they moved

moved_to_text : (spelling : Spelling)
    → IsSelect (codes "SELECT * FROM sheet_items WHERE seq <= ?1 ORDER BY seq")
    (spelled sheet_items spelling) (compares Le 0 0) ((col 1 1, ascending) ∷ [])
unfolding everything
moved_to_text spelling = record {
  parse = _;
  asks = _;
  src = _;
  item = _;
  parsed = refl;
  statement = refl;
  formats = refl;
  one = one_table refl refl refl refl refl refl refl refl refl refl refl refl refl refl refl;
  condition = (_, refl, (_, _, _, _, refl, refl, refl, refl, refl, refl, refl));
  enough = refl;
  few = λ at. refl;
  some = λ at. refl;
  sorted = λ schema at. (_, refl, refl);
}

moved_to_plan : (spelling : Spelling) → IsPlannedSelect (spelled sheet_items spelling) (compares Le 0 0)
    ((col 1 1, ascending) ∷ [])
unfolding resolving
moved_to_plan spelling schema at h = rw (h.stored, h.by_tree) refl

pub moved_to : (last : ℤ) → IsLookUp moved_shape moved_shown
    (codes "SELECT * FROM sheet_items WHERE seq <= ?1 ORDER BY seq") (Int last ∷ [])
    (λ x. int_le x.seq last)
moved_to last = record {
  test = _;
  by = _;
  selects = moved_to_text;
  planned = moved_to_plan;
  given = refl;
  listing = _;
  is = λ spelling. refl;
  shows = λ v x. refl;
  passing = λ v x. at_most x.seq last;
}

moved_after_text : (spelling : Spelling)
    → IsSelect (codes "SELECT * FROM sheet_items WHERE seq > ?1 ORDER BY seq")
    (spelled sheet_items spelling) (compares Gt 0 0) ((col 1 1, ascending) ∷ [])
unfolding everything
moved_after_text spelling = record {
  parse = _;
  asks = _;
  src = _;
  item = _;
  parsed = refl;
  statement = refl;
  formats = refl;
  one = one_table refl refl refl refl refl refl refl refl refl refl refl refl refl refl refl;
  condition = (_, refl, (_, _, _, _, refl, refl, refl, refl, refl, refl, refl));
  enough = refl;
  few = λ at. refl;
  some = λ at. refl;
  sorted = λ schema at. (_, refl, refl);
}

moved_after_plan : (spelling : Spelling) → IsPlannedSelect (spelled sheet_items spelling) (compares Gt 0 0)
    ((col 1 1, ascending) ∷ [])
unfolding resolving
moved_after_plan spelling schema at h = rw (h.stored, h.by_tree) refl

pub moved_after : (before : ℤ) → IsLookUp moved_shape moved_shown
    (codes "SELECT * FROM sheet_items WHERE seq > ?1 ORDER BY seq") (Int before ∷ [])
    (λ x. int_lt before x.seq)
moved_after before = record {
  test = _;
  by = _;
  selects = moved_after_text;
  planned = moved_after_plan;
  given = refl;
  listing = _;
  is = λ spelling. refl;
  shows = λ v x. refl;
  passing = λ v x. above x.seq before;
}

moved_within_text : (spelling : Spelling)
    → IsSelect (codes "SELECT * FROM sheet_items WHERE seq > ?1 AND seq <= ?2 ORDER BY seq")
    (spelled sheet_items spelling) (both (compares Gt 0 0) (compares Le 0 1)) ((col 1 1, ascending) ∷ [])
unfolding everything
moved_within_text spelling = record {
  parse = _;
  asks = _;
  src = _;
  item = _;
  parsed = refl;
  statement = refl;
  formats = refl;
  one = one_table refl refl refl refl refl refl refl refl refl refl refl refl refl refl refl;
  condition = (
    _,
    refl,
    (
      _,
      _,
      refl,
      (_, _, _, _, refl, refl, refl, refl, refl, refl, refl),
      (_, _, _, _, refl, refl, refl, refl, refl, refl, refl),
    ),
  );
  enough = refl;
  few = λ at. refl;
  some = λ at. refl;
  sorted = λ schema at. (_, refl, refl);
}

moved_within_plan : (spelling : Spelling) → IsPlannedSelect (spelled sheet_items spelling)
    (both (compares Gt 0 0) (compares Le 0 1))
    ((col 1 1, ascending) ∷ [])
unfolding resolving
moved_within_plan spelling schema at h = rw (h.stored, h.by_tree) refl

pub moved_within : (before last : ℤ) → IsLookUp moved_shape moved_shown
    (codes "SELECT * FROM sheet_items WHERE seq > ?1 AND seq <= ?2 ORDER BY seq") (Int before ∷ Int last ∷ [])
    (λ x. int_lt before x.seq && int_le x.seq last)
moved_within before last = record {
  test = _;
  by = _;
  selects = moved_within_text;
  planned = moved_within_plan;
  given = refl;
  listing = _;
  is = λ spelling. refl;
  shows = λ v x. refl;
  passing = λ v x. both_same (above x.seq before) (at_most x.seq last);
}
