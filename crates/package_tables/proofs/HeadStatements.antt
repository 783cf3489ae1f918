-- The statements on `sheet_package`.
use Rattle.std.proofs.Common.{ℕ, List, [], ◌∷◌, codes, refl}
use Rattle.sqlite.specs.Order.{Row}
use Rattle.sqlite.specs.declared.types.Value.TheVariants.{Int, Null, Text}
use Rattle.sqlite_tied.specs.Compute.{everything}
use Rattle.store_sql.proofs.Insert.{IsInsert, IsRow}
use Rattle.package_tables.specs.Tables.{sheet_package}
use Rattle.package_tables.specs.Shapes.{head_shape}
use Rattle.package_tables.specs.declared.rows.HeadRow.{HeadRow}
use Rattle.std.proofs.Common.{true}
use Rattle.sqlite.specs.Term.{col}
use Rattle.store_sql.specs.Resolving.{resolving}
use Rattle.store_sql.specs.Reading.{always, ascending}
use Rattle.store_sql.specs.Spelling.{Spelling, spelled}
use Rattle.store_sql.proofs.Resolve.{one_table}
use Rattle.store_sql.proofs.Select.{IsSelect, IsPlannedSelect}
use Rattle.package_tables.specs.Shapes.{int_at, text_at}
use Rattle.package_tables.specs.Listed.{heads}
use Rattle.package_tables.specs.Shown.{head_shown}
use Rattle.package_tables.proofs.Looking.{IsKnown, IsLookUp}
use Rattle.package_tables.proofs.Written.{heads_listed}
use Rattle.std.specs.Ordering.{on, int_cmp}
use Rattle.std.proofs.lemmas.Cmp.{on_total, int_cmp_total}
use Rattle.package_tables.proofs.Looking.{IsRanked}
use Rattle.package_tables.proofs.Ranking.{one_number}

pub insert_text : (spelling : Spelling)
    → IsInsert (codes "INSERT INTO sheet_package VALUES (?1, ?2, ?3, ?4, ?5, ?6, ?7)")
    (spelled sheet_package spelling)
unfolding everything
insert_text spelling = record {
  parse = _;
  rows = _;
  parsed = refl;
  statement = refl;
  formats = refl;
  named = refl;
  unstamped = refl;
  source = λ schema. refl;
}

pub insert_row : (row : HeadRow) (spelling : Spelling) (there : List Row)
    → IsRow (spelled sheet_package spelling) (Int row.id ∷ Int row.version ∷ Text row.package
    ∷ Text row.parent ∷ Int row.depth ∷ Int row.loan ∷ Text row.created ∷ []) there
    (head_shape.stored Null row)
insert_row row spelling there = record { source = _; laid = refl; kinds = refl; placed = λ top. refl }

pub heads_known : IsKnown heads head_shown
heads_known = record {
  is = heads_listed;
  back = λ r. record {
    id = int_at r 0;
    version = int_at r 1;
    «package» = text_at r 2;
    parent = text_at r 3;
    depth = int_at r 4;
    loan = int_at r 5;
    created = text_at r 6;
  };
  returns = λ x. refl;
}

all_heads_text : (spelling : Spelling) → IsSelect (codes "SELECT * FROM sheet_package ORDER BY id")
    (spelled sheet_package spelling) always ((col 1 0, ascending) ∷ [])
unfolding everything
all_heads_text spelling = record {
  parse = _;
  asks = _;
  src = _;
  item = _;
  parsed = refl;
  statement = refl;
  formats = refl;
  one = one_table refl refl refl refl refl refl refl refl refl refl refl refl refl refl refl;
  condition = refl;
  enough = refl;
  few = λ at. refl;
  some = λ at. refl;
  sorted = λ schema at. (_, refl, refl);
}

all_heads_plan : (spelling : Spelling) → IsPlannedSelect (spelled sheet_package spelling) always
    ((col 1 0, ascending) ∷ [])
unfolding resolving
all_heads_plan spelling schema at h = rw (h.stored, h.by_tree) refl

pub all_heads : IsLookUp head_shape head_shown (codes "SELECT * FROM sheet_package ORDER BY id") [] (λ x. true)
all_heads = record {
  test = _;
  by = _;
  selects = all_heads_text;
  planned = all_heads_plan;
  given = refl;
  listing = _;
  is = λ spelling. refl;
  shows = λ v x. refl;
  passing = λ v x. refl;
}

pub all_heads_ranked : IsRanked all_heads (on (λ x. x.id) int_cmp)
unfolding all_heads
all_heads_ranked = record {
  keys = λ x. Int x.id ∷ [];
  keyed = λ v x. refl;
  total = (on_total (λ x. x.id) int_cmp_total);
  alike = λ x y. one_number x.id y.id;
}
