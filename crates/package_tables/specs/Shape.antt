-- How the rows of a table stand for values of a type.
use Rattle.std.specs.Prelude.{◌≡◌, ℕ, true, List, map}
use Rattle.std.specs.List.{AllByRecursion}
use Rattle.sqlite.specs.Table.{Table}
use Rattle.sqlite.specs.Order.{Row}
use Rattle.sqlite.specs.Tree.{rowid}
use Rattle.sqlite.specs.declared.types.Value.{Value}
use Rattle.sqlite.specs.Effect.{Database}
use Rattle.sqlite_trees.specs.View.{is_int}
use Rattle.sheet_types.specs.Ordered.{arranged}
use Rattle.store_sql.specs.Writing.{IsKeyed}
use Rattle.package_tables.specs.Form.{IsPlaced, rows_named}

-- the table, what a row says, how a value is stored under a rowid (a table whose key is the rowid does not look at
-- it), and the key by which the values are arranged
pub record Shape (R : Type 0) : Type 0 where
  pub table : ℕ → Table
  pub typed : Row → R
  pub stored : Value → R → Row
  pub key : R → List ℕ

-- what each shape here has to meet; true of a written one by computation
pub record IsShape {R : Type 0} (shape : Shape R) : Type 0 where
  pub named : (tree : ℕ) → (shape.table tree).name ≡ (shape.table 0).name
  pub treed : (tree : ℕ) → (shape.table tree).tree ≡ tree
  pub says : (v : Value) (x : R) → shape.typed (shape.stored v x) ≡ x
  pub again : (v : Value) (x : R) → shape.stored (rowid (shape.stored v x)) x ≡ shape.stored v x
  pub numbered : (v : Value) (x : R) → is_int v ≡ true → is_int (rowid (shape.stored v x)) ≡ true

-- the rows as they are stored
abbrev pub stored_rows : {R : Type 0} → Shape R → Database → List Row
stored_rows shape db = rows_named db (shape.table 0).name

-- the table as a list of values, in the order of their keys
abbrev pub rows_of : {R : Type 0} → Shape R → Database → List R
rows_of shape db = arranged shape.key (map shape.typed (stored_rows shape db))

-- a row holds what its value is stored as, and nothing else
abbrev pub IsStored : {R : Type 0} → Shape R → Row → Type 0
IsStored shape r = shape.stored (rowid r) (shape.typed r) ≡ r

-- the schema has the table, and its rows are of its kinds
pub record IsFormed {R : Type 0} (shape : Shape R) (db : Database) : Type 0 where
  pub placed : IsPlaced db.schema shape.table
  pub keyed : IsKeyed (stored_rows shape db)
  pub stored : AllByRecursion (IsStored shape) (stored_rows shape db)
