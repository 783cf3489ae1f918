-- The statements that read the rows of the user tables one after the other.
use Rattle.std.proofs.Common.{ℕ, ℤ, [], ◌∷◌, true, codes, refl}
use Rattle.std.specs.Ordering.{int_cmp, is_gt}
use Rattle.sqlite_sql.specs.declared.ops.CompareOp.TheVariants.{Gt}
use Rattle.sqlite.specs.Term.{col}
use Rattle.sqlite.specs.declared.types.Value.TheVariants.{Int}
use Rattle.sqlite_tied.specs.Compute.{everything}
use Rattle.store_sql.specs.Resolving.{resolving}
use Rattle.store_sql.specs.Reading.{always, compares, ascending}
use Rattle.store_sql.specs.Spelling.{Spelling, spelled}
use Rattle.store_sql.proofs.Resolve.{one_source}
use Rattle.store_sql.proofs.First.{IsFirst, IsPlannedFirst}
use Rattle.package_tables.specs.Tables.{sheet_tiles, sheet_media, sheet_rows}
use Rattle.package_tables.specs.Shapes.{tile_shape, medium_shape, attribute_shape}
use Rattle.package_tables.specs.Shown.{tile_shown, medium_shown, attribute_shown}
use Rattle.package_tables.proofs.Next.{IsNext}
use Rattle.package_tables.proofs.Values.{above_number}

tile_first_text : (spelling : Spelling) → IsFirst (codes "SELECT * FROM sheet_tiles ORDER BY id LIMIT 1")
    (spelled sheet_tiles spelling) always ((col 1 0, ascending) ∷ [])
unfolding everything
tile_first_text spelling = record {
  parse = _;
  asks = _;
  src = _;
  item = _;
  parsed = refl;
  statement = refl;
  formats = refl;
  one = (one_source refl refl refl refl refl refl refl refl refl refl refl refl refl, λ schema. refl);
  condition = refl;
  enough = refl;
  few = λ at. refl;
  some = λ at. refl;
  sorted = λ schema at. (_, refl, refl);
}

tile_first_plan : (spelling : Spelling) → IsPlannedFirst (spelled sheet_tiles spelling) always
    ((col 1 0, ascending) ∷ [])
unfolding resolving
tile_first_plan spelling schema at h = rw (h.stored, h.by_tree) refl

pub tile_first : IsNext tile_shape tile_shown (λ x. x.id) (codes "SELECT * FROM sheet_tiles ORDER BY id LIMIT 1") []
    (λ x. true)
tile_first = record {
  test = _;
  by = _;
  selects = tile_first_text;
  planned = tile_first_plan;
  given = refl;
  pass = _;
  listed = _;
  is = λ spelling. refl;
  shows = λ v x. refl;
  passing = λ v x. refl;
  keyed = λ v x. refl;
}

tile_after_text : (spelling : Spelling)
    → IsFirst (codes "SELECT * FROM sheet_tiles WHERE id > ?1 ORDER BY id LIMIT 1") (spelled sheet_tiles spelling)
    (compares Gt 0 0) ((col 1 0, ascending) ∷ [])
unfolding everything
tile_after_text spelling = record {
  parse = _;
  asks = _;
  src = _;
  item = _;
  parsed = refl;
  statement = refl;
  formats = refl;
  one = (one_source refl refl refl refl refl refl refl refl refl refl refl refl refl, λ schema. refl);
  condition = (_, refl, (_, _, _, _, refl, refl, refl, refl, refl, refl, refl));
  enough = refl;
  few = λ at. refl;
  some = λ at. refl;
  sorted = λ schema at. (_, refl, refl);
}

tile_after_plan : (spelling : Spelling) → IsPlannedFirst (spelled sheet_tiles spelling) (compares Gt 0 0)
    ((col 1 0, ascending) ∷ [])
unfolding resolving
tile_after_plan spelling schema at h = rw (h.stored, h.by_tree) refl

pub tile_after : (id : ℤ) → IsNext tile_shape tile_shown (λ x. x.id)
    (codes "SELECT * FROM sheet_tiles WHERE id > ?1 ORDER BY id LIMIT 1") (Int id ∷ [])
    (λ x. is_gt (int_cmp x.id id))
tile_after id = record {
  test = _;
  by = _;
  selects = tile_after_text;
  planned = tile_after_plan;
  given = refl;
  pass = _;
  listed = _;
  is = λ spelling. refl;
  shows = λ v x. refl;
  passing = λ v x. above_number x.id id;
  keyed = λ v x. refl;
}

medium_first_text : (spelling : Spelling) → IsFirst (codes "SELECT * FROM sheet_media ORDER BY id LIMIT 1")
    (spelled sheet_media spelling) always ((col 1 0, ascending) ∷ [])
unfolding everything
medium_first_text spelling = record {
  parse = _;
  asks = _;
  src = _;
  item = _;
  parsed = refl;
  statement = refl;
  formats = refl;
  one = (one_source refl refl refl refl refl refl refl refl refl refl refl refl refl, λ schema. refl);
  condition = refl;
  enough = refl;
  few = λ at. refl;
  some = λ at. refl;
  sorted = λ schema at. (_, refl, refl);
}

medium_first_plan : (spelling : Spelling) → IsPlannedFirst (spelled sheet_media spelling) always
    ((col 1 0, ascending) ∷ [])
unfolding resolving
medium_first_plan spelling schema at h = rw (h.stored, h.by_tree) refl

pub medium_first : IsNext medium_shape medium_shown (λ x. x.id)
    (codes "SELECT * FROM sheet_media ORDER BY id LIMIT 1") [] (λ x. true)
medium_first = record {
  test = _;
  by = _;
  selects = medium_first_text;
  planned = medium_first_plan;
  given = refl;
  pass = _;
  listed = _;
  is = λ spelling. refl;
  shows = λ v x. refl;
  passing = λ v x. refl;
  keyed = λ v x. refl;
}

medium_after_text : (spelling : Spelling)
    → IsFirst (codes "SELECT * FROM sheet_media WHERE id > ?1 ORDER BY id LIMIT 1") (spelled sheet_media spelling)
    (compares Gt 0 0) ((col 1 0, ascending) ∷ [])
unfolding everything
medium_after_text spelling = record {
  parse = _;
  asks = _;
  src = _;
  item = _;
  parsed = refl;
  statement = refl;
  formats = refl;
  one = (one_source refl refl refl refl refl refl refl refl refl refl refl refl refl, λ schema. refl);
  condition = (_, refl, (_, _, _, _, refl, refl, refl, refl, refl, refl, refl));
  enough = refl;
  few = λ at. refl;
  some = λ at. refl;
  sorted = λ schema at. (_, refl, refl);
}

medium_after_plan : (spelling : Spelling) → IsPlannedFirst (spelled sheet_media spelling) (compares Gt 0 0)
    ((col 1 0, ascending) ∷ [])
unfolding resolving
medium_after_plan spelling schema at h = rw (h.stored, h.by_tree) refl

pub medium_after : (id : ℤ) → IsNext medium_shape medium_shown (λ x. x.id)
    (codes "SELECT * FROM sheet_media WHERE id > ?1 ORDER BY id LIMIT 1") (Int id ∷ [])
    (λ x. is_gt (int_cmp x.id id))
medium_after id = record {
  test = _;
  by = _;
  selects = medium_after_text;
  planned = medium_after_plan;
  given = refl;
  pass = _;
  listed = _;
  is = λ spelling. refl;
  shows = λ v x. refl;
  passing = λ v x. above_number x.id id;
  keyed = λ v x. refl;
}

attributes_first_text : (spelling : Spelling) → IsFirst (codes "SELECT * FROM sheet_rows ORDER BY id LIMIT 1")
    (spelled sheet_rows spelling) always ((col 1 0, ascending) ∷ [])
unfolding everything
attributes_first_text spelling = record {
  parse = _;
  asks = _;
  src = _;
  item = _;
  parsed = refl;
  statement = refl;
  formats = refl;
  one = (one_source refl refl refl refl refl refl refl refl refl refl refl refl refl, λ schema. refl);
  condition = refl;
  enough = refl;
  few = λ at. refl;
  some = λ at. refl;
  sorted = λ schema at. (_, refl, refl);
}

attributes_first_plan : (spelling : Spelling) → IsPlannedFirst (spelled sheet_rows spelling) always
    ((col 1 0, ascending) ∷ [])
unfolding resolving
attributes_first_plan spelling schema at h = rw (h.stored, h.by_tree) refl

pub attributes_first : IsNext attribute_shape attribute_shown (λ x. x.id)
    (codes "SELECT * FROM sheet_rows ORDER BY id LIMIT 1") [] (λ x. true)
attributes_first = record {
  test = _;
  by = _;
  selects = attributes_first_text;
  planned = attributes_first_plan;
  given = refl;
  pass = _;
  listed = _;
  is = λ spelling. refl;
  shows = λ v x. refl;
  passing = λ v x. refl;
  keyed = λ v x. refl;
}

attributes_after_text : (spelling : Spelling) → IsFirst (codes
    "SELECT * FROM sheet_rows WHERE id > ?1 ORDER BY id LIMIT 1") (spelled sheet_rows spelling) (compares Gt 0 0)
    ((col 1 0, ascending) ∷ [])
unfolding everything
attributes_after_text spelling = record {
  parse = _;
  asks = _;
  src = _;
  item = _;
  parsed = refl;
  statement = refl;
  formats = refl;
  one = (one_source refl refl refl refl refl refl refl refl refl refl refl refl refl, λ schema. refl);
  condition = (_, refl, (_, _, _, _, refl, refl, refl, refl, refl, refl, refl));
  enough = refl;
  few = λ at. refl;
  some = λ at. refl;
  sorted = λ schema at. (_, refl, refl);
}

attributes_after_plan : (spelling : Spelling) → IsPlannedFirst (spelled sheet_rows spelling) (compares Gt 0 0)
    ((col 1 0, ascending) ∷ [])
unfolding resolving
attributes_after_plan spelling schema at h = rw (h.stored, h.by_tree) refl

pub attributes_after : (id : ℤ) → IsNext attribute_shape attribute_shown (λ x. x.id)
    (codes "SELECT * FROM sheet_rows WHERE id > ?1 ORDER BY id LIMIT 1") (Int id ∷ []) (λ x. is_gt (int_cmp x.id id))
attributes_after id = record {
  test = _;
  by = _;
  selects = attributes_after_text;
  planned = attributes_after_plan;
  given = refl;
  pass = _;
  listed = _;
  is = λ spelling. refl;
  shows = λ v x. refl;
  passing = λ v x. above_number x.id id;
  keyed = λ v x. refl;
}
