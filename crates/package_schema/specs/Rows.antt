-- Which rows of a table its columns let in, and which of them stand for values.
use Rattle.std.specs.Prelude.{◌≡◌, ℕ, ◌+◌, Bool, true, false, not, ◌&&◌, ◌||◌}
use Rattle.std.specs.Prelude.{if◌then◌else◌, List, [], ◌∷◌, Option}
use Rattle.std.specs.Prelude.{Some, None, IsTrue, ◌↔◌}
use Rattle.std.specs.List.{AllByRecursion}
use Rattle.sqlite.specs.Table.{Table}
use Rattle.sqlite.specs.Effect.{Database}
use Rattle.sqlite.specs.Order.{Row, column}
use Rattle.sqlite.specs.Tree.{rowid}
use Rattle.sqlite.specs.Ops.{is_null}
use Rattle.sqlite.specs.declared.types.Value.{Value}
use Rattle.sqlite.specs.declared.types.Value.TheVariants.{Null, Int, Text, Blob}
use Rattle.sqlite_schema.specs.Names.{is_key}
use Rattle.sqlite_schema.specs.declared.schema.Column.{Column}
use Rattle.sqlite_schema.specs.declared.schema.Kind.{Kind}
use Rattle.sqlite_schema.specs.declared.schema.Kind.TheVariants as kind
use Rattle.package_tables.specs.Form.{IsPlaced}
use Rattle.package_tables.specs.Shape.{Shape, stored_rows}
use Rattle.package_tables.specs.Shapes.{int_of, text_of, blob_of}

-- a column of numbers, texts or bytes, of which the table keeps the kind
abbrev pub is_kept : Kind → Bool
is_kept kind.Integer = true
is_kept kind.Text = true
is_kept kind.Blob = true
is_kept _ = false

abbrev pub are_kept : List Column → Bool
are_kept [] = true
are_kept (c ∷ cs) = (c.is_strict && is_kept c.kind) && are_kept cs

-- the value as one of its kind
abbrev pub as_kind : Kind → Value → Value
as_kind kind.Integer v = Int (int_of v)
as_kind kind.Text v = Text (text_of v)
as_kind kind.Blob v = Blob (blob_of v)
as_kind _ v = Null

-- the values from a column on, each as one of its kind; NULL stands where the rowid is the column
abbrev pub as_columns : Option ℕ → ℕ → List Column → Row → Row
as_columns key at [] r = []
as_columns key at (c ∷ cs) r = (if is_key key at then Null else as_kind c.kind (column r (at + 1)))
    ∷ as_columns key (at + 1) cs r

abbrev pub as_rowid : Option ℕ → Row → Value
as_rowid (Some at) r = Int (int_of (column r 0))
as_rowid None r = rowid r

-- the row as it is where each of its values is of its column's kind
abbrev pub as_row : Table → Row → Row
as_row t r = as_rowid t.key r ∷ as_columns t.key 0 t.columns r

-- no value but the place of the rowid is NULL
abbrev pub are_filled : Option ℕ → ℕ → List Column → Row → Bool
are_filled key at [] r = true
are_filled key at (c ∷ cs) r = (is_key key at || not (is_null (column r (at + 1)))) && are_filled key (at + 1) cs r

abbrev pub is_filled : Table → Row → Bool
is_filled t r = are_filled t.key 0 t.columns r

-- the last column is not the rowid
abbrev pub ends_otherwise : Option ℕ → ℕ → List Column → Bool
ends_otherwise key at [] = true
ends_otherwise key at (c ∷ []) = not (is_key key at)
ends_otherwise key at (c ∷ d ∷ cs) = ends_otherwise key (at + 1) (d ∷ cs)

-- each column has to have a value, or is the rowid
abbrev pub are_needed : Option ℕ → ℕ → List Column → Bool
are_needed key at [] = true
are_needed key at (c ∷ cs) = (is_key key at || c.not_null) && are_needed key (at + 1) cs

-- no value of the row is NULL
abbrev pub IsFull : Row → Type 0
IsFull r = AllByRecursion (λ v. is_null v ≡ false) r

-- whether no row of the table has a NULL, where the table is there
abbrev pub AreFilled : {R : Type 0} → Shape R → Database → Bool → Type 0
AreFilled shape db filled = IsPlaced db.schema shape.table →
    (IsTrue filled ↔ AllByRecursion (λ r. is_filled (shape.table 0) r ≡ true) (stored_rows shape db))
