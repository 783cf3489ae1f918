-- A table as a form has it.
use Rattle.std.specs.Prelude.{ℕ, false, [], map}
use Rattle.sqlite.specs.Collation.TheVariants.{Binary}
use Rattle.sqlite.specs.declared.types.Value.TheVariants.{Null}
use Rattle.sqlite.specs.Table.{Table}
use Rattle.sqlite_schema.specs.declared.schema.Column.{Column}
use Rattle.sqlite_schema.specs.declared.schema.Reference.{Reference}
use Rattle.sqlite_schema.specs.declared.schema.Action.TheVariants.{NoAction}
use Rattle.store_sql.specs.declared.forms.ColumnForm.{ColumnForm}
use Rattle.store_sql.specs.declared.forms.ReferenceForm.{ReferenceForm}
use Rattle.store_sql.specs.declared.forms.TableForm.{TableForm}

abbrev pub column_of : ColumnForm → Column
column_of f = record {
  name = f.name.now;
  kind = f.kind;
  is_strict = f.is_strict;
  not_null = f.not_null;
  default = Null;
  collation = Binary;
}

abbrev pub reference_of : ReferenceForm → Reference
reference_of f = record {
  columns = f.columns.now;
  parent = f.parent.now;
  parent_columns = map (λ n. n.now) f.parent_columns.now;
  on_delete = NoAction;
  on_update = NoAction;
  is_deferred = false;
}

-- the table of the form, in a tree that a store chose
abbrev pub table_of : TableForm → ℕ → Table
table_of f tree = record {
  name = f.name.now;
  tree = tree;
  columns = map column_of f.columns.now;
  key = f.key;
  primary = f.primary.now;
  uniques = map (λ u. u.now) f.uniques.now;
  orders = f.orders.now;
  checks = [];
  references = map reference_of f.references.now;
  computed = [];
  stamps = record { places = []; terms = []; formats = [] };
  is_counted = f.is_counted;
}
