-- The statements of the worked example.
use Rattle.std.proofs.Common.{ℕ, ℤ, List, [], ◌∷◌, codes, refl}
use Rattle.sqlite.specs.Order.{Row}
use Rattle.sqlite.specs.declared.types.Value.TheVariants.{Int, Text}
use Rattle.sqlite_sql.specs.declared.ops.CompareOp.TheVariants.{Ge, Lt}
use Rattle.sqlite.specs.Term.{Term, col}
use Rattle.sqlite_value.specs.declared.keys.Key.{Key}
use Rattle.sqlite_tied.specs.Compute.{everything}
use Rattle.store_sql.specs.Spelling.{Spelling, spelled}
use Rattle.store_sql.specs.Resolving.{resolving}
use Rattle.store_sql.specs.Reading.{equals, compares, ascending, descending, Test, both}
use Rattle.store_sql.proofs.Resolve.{one_table, one_source, over_table, all_rows}
use Rattle.store_sql.proofs.Columns.{named_terms}
use Rattle.store_sql.proofs.Select.{IsSelect, IsPlannedSelect, IsNamed, IsPlannedNamed, IsAsked, asked_named}
use Rattle.store_sql.proofs.First.{IsFirst, IsPlannedFirst}
use Rattle.store_sql.proofs.Insert.{IsInsert, IsRow}
use Rattle.store_sql.specs.Notes.{note_table, note_stored}

pub insert_text : (spelling : Spelling) → IsInsert (codes "INSERT INTO notes VALUES (?1, ?2, ?3)")
    (spelled note_table spelling)
unfolding everything
insert_text spelling = record {
  parse = _;
  rows = _;
  parsed = refl;
  statement = refl;
  formats = refl;
  named = refl;
  unstamped = refl;
  source = λ schema. refl;
}

pub insert_row : (seq place : ℤ) (text : List ℕ) (spelling : Spelling) (there : List Row)
    → IsRow (spelled note_table spelling) (Int seq ∷ Int place ∷ Text text ∷ []) there
    (note_stored seq place text)
insert_row seq place text spelling there = record { source = _; laid = refl; kinds = refl; placed = λ top. refl }

-- ---- the newest of a place

abbrev pub by_newest : List (Term × Key)
by_newest = (col 1 0, descending) ∷ []

pub newest_text : (spelling : Spelling)
    → IsFirst (codes "SELECT * FROM notes WHERE place = ?1 ORDER BY seq DESC LIMIT 1") (spelled note_table spelling)
    (equals 1 0) by_newest
unfolding everything
newest_text spelling = record {
  parse = _;
  asks = _;
  src = _;
  item = _;
  parsed = refl;
  statement = refl;
  formats = refl;
  one = (one_source refl refl refl refl refl refl refl refl refl refl refl refl refl, λ schema. refl);
  condition = (_, refl, (_, _, _, _, refl, refl, refl, refl, refl, refl, refl));
  enough = refl;
  few = λ at. refl;
  some = λ at. refl;
  sorted = λ schema at. (_, refl, refl);
}

pub newest_plan : (spelling : Spelling) → IsPlannedFirst (spelled note_table spelling) (equals 1 0) by_newest
unfolding resolving
newest_plan spelling schema at h = rw (h.stored, h.by_tree) refl

-- ---- from a number on

abbrev pub by_number : List (Term × Key)
by_number = (col 1 0, ascending) ∷ []

pub from_text : (spelling : Spelling) → IsSelect (codes "SELECT * FROM notes WHERE seq >= ?1 ORDER BY seq")
    (spelled note_table spelling) (compares Ge 0 0) by_number
unfolding everything
from_text spelling = record {
  parse = _;
  asks = _;
  src = _;
  item = _;
  parsed = refl;
  statement = refl;
  formats = refl;
  one = one_table refl refl refl refl refl refl refl refl refl refl refl refl refl refl refl;
  condition = (_, refl, (_, _, _, _, refl, refl, refl, refl, refl, refl, refl));
  enough = refl;
  few = λ at. refl;
  some = λ at. refl;
  sorted = λ schema at. (_, refl, refl);
}

pub from_plan : (spelling : Spelling) → IsPlannedSelect (spelled note_table spelling) (compares Ge 0 0) by_number
unfolding resolving
from_plan spelling schema at h = rw (h.stored, h.by_tree) refl

-- ---- of a place, below a number, backwards

abbrev pub in_place_below : Test
in_place_below = both (equals 1 0) (compares Lt 0 1)

pub before_text : (spelling : Spelling)
    → IsSelect (codes "SELECT * FROM notes WHERE place = ?1 AND seq < ?2 ORDER BY seq DESC")
    (spelled note_table spelling) in_place_below by_newest
unfolding everything
before_text spelling = record {
  parse = _;
  asks = _;
  src = _;
  item = _;
  parsed = refl;
  statement = refl;
  formats = refl;
  one = one_table refl refl refl refl refl refl refl refl refl refl refl refl refl refl refl;
  condition = (
    _,
    refl,
    (
      _,
      _,
      refl,
      (_, _, _, _, refl, refl, refl, refl, refl, refl, refl),
      (_, _, _, _, refl, refl, refl, refl, refl, refl, refl),
    ),
  );
  enough = refl;
  few = λ at. refl;
  some = λ at. refl;
  sorted = λ schema at. (_, refl, refl);
}

pub before_plan : (spelling : Spelling) → IsPlannedSelect (spelled note_table spelling) in_place_below by_newest
unfolding resolving
before_plan spelling schema at h = rw (h.stored, h.by_tree) refl

-- ---- the numbers of a place

pub numbers_text : (spelling : Spelling) → IsNamed (codes "SELECT seq FROM notes WHERE place = ?1 ORDER BY seq")
    (spelled note_table spelling) (0 ∷ []) (equals 1 0) by_number all_rows
unfolding everything
numbers_text spelling = record {
  parse = _;
  asks = _;
  src = _;
  items = _;
  parsed = refl;
  statement = refl;
  formats = refl;
  one = over_table refl refl refl refl refl refl refl refl refl refl refl refl;
  paged = λ schema. refl;
  columns = ((_, _, refl, (_, _, refl, refl, refl)), tt);
  condition = (_, refl, (_, _, _, _, refl, refl, refl, refl, refl, refl, refl));
  orders = ((_, (_, _, refl, refl, refl), refl, refl), tt);
  enough = refl;
}

pub numbers_plan : (spelling : Spelling) → IsPlannedNamed (spelled note_table spelling) (0 ∷ []) (equals 1 0)
    by_number all_rows
unfolding resolving
numbers_plan spelling schema at h = rw (h.stored, h.by_tree) refl

pub numbers : (spelling : Spelling) → IsAsked (codes "SELECT seq FROM notes WHERE place = ?1 ORDER BY seq")
    (spelled note_table spelling) (equals 1 0) (named_terms (spelled note_table spelling) (0 ∷ [])) by_number
    all_rows
numbers spelling = asked_named (numbers_text spelling) (numbers_plan spelling)
