-- The table of the worked example.
use Rattle.std.specs.Prelude.{ℕ, ℤ, true, false, ◌&&◌, List, [], ◌∷◌, Some, codes}
use Rattle.sqlite.specs.declared.types.Value.TheVariants as value
use Rattle.sqlite.specs.Order.{Row, column as value_in}
use Rattle.sqlite_sql.specs.declared.ops.CompareOp.TheVariants.{Ge, Lt}
use Rattle.store_sql.specs.Reading.{Listing, is_same, stands, ascending, descending}
use Rattle.sqlite.specs.Table.{Table}
use Rattle.sqlite.specs.Kind.TheVariants.{Integer, Text}
use Rattle.sqlite.specs.Effect.{Database}
use Rattle.store_sql.specs.declared.example.Note.{Note}
use Rattle.store_sql.specs.Known.{column}
use Rattle.store_sql.specs.Writing.{Inserts, Chained}

-- CREATE TABLE notes (seq INTEGER PRIMARY KEY, place INTEGER NOT NULL, text TEXT NOT NULL) STRICT
abbrev pub note_table : ℕ → Table
note_table tree = record {
  name = codes "notes";
  tree = tree;
  columns = column (codes "seq") Integer false ∷ column (codes "place") Integer true
      ∷ column (codes "text") Text true ∷ [];
  key = Some 0;
  primary = 0 ∷ [];
  uniques = [];
  orders = [];
  checks = [];
  references = [];
  computed = [];
  stamps = record { places = []; terms = []; formats = [] };
  is_counted = false;
}

-- a row as it is stored: the rowid first, and NULL in the column that is the rowid
abbrev pub note_stored : ℤ → ℤ → List ℕ → Row
note_stored seq place text = value.Int seq ∷ value.Null ∷ value.Int place ∷ value.Text text ∷ []

abbrev pub AddsNote : ℤ → ℤ → List ℕ → Database → Database → Type 0
AddsNote seq place text = Inserts note_table (λ there. note_stored seq place text)

-- both notes are added, one after the other
abbrev pub AddsBoth : ℤ → ℤ → ℤ → List ℕ → List ℕ → Database → Database → Type 0
AddsBoth first second place one other = Chained (AddsNote first place one) (AddsNote second place other)

abbrev pub Adds : Note → Database → Database → Type 0
Adds n = AddsNote n.seq n.place n.text.now

abbrev shown_note : Row → Row
shown_note r = value_in r 0 ∷ value_in r 2 ∷ value_in r 3 ∷ []

-- the notes of a place, the newest first
abbrev pub newest_in : ℤ → Listing
newest_in place = record {
  keeps = λ r. is_same (value_in r 2) (value.Int place);
  key = λ r. value_in r 0 ∷ [];
  shown = shown_note;
  by = descending ∷ [];
}

-- the notes from a number on, by their numbers
abbrev pub notes_from : ℤ → Listing
notes_from seq = record {
  keeps = λ r. stands Ge (value_in r 0) (value.Int seq);
  key = λ r. value_in r 0 ∷ [];
  shown = shown_note;
  by = ascending ∷ [];
}

-- the notes of a place below a number, the newest first
abbrev pub notes_before : ℤ → ℤ → Listing
notes_before place seq =
    record {
      keeps = λ r. is_same (value_in r 2) (value.Int place) && stands Lt (value_in r 0) (value.Int seq);
      key = λ r. value_in r 0 ∷ [];
      shown = shown_note;
      by = descending ∷ [];
    }

-- the numbers of the notes of a place, in their order, and nothing else of them
abbrev pub numbers_in : ℤ → Listing
numbers_in place = record {
  keeps = λ r. is_same (value_in r 2) (value.Int place);
  key = λ r. value_in r 0 ∷ [];
  shown = λ r. value_in r 0 ∷ [];
  by = ascending ∷ [];
}
