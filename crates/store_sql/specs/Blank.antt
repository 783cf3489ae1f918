-- A database that has the tables of a schema, with no rows.
use Rattle.std.specs.Prelude.{◌≡◌, ℕ, ◌==◌, List, [], length, slice_range, true, false, not, ◌&&◌}
use Rattle.std.specs.Prelude.{if◌then◌else◌, None, Ok}
use Rattle.std.specs.List.{AllByRecursion}
use Rattle.sqlite_ast.specs.declared.CreateTable.{CreateTable as Written}
use Rattle.sqlite_ast.specs.declared.Statement.TheVariants as written
use Rattle.sqlite_syntax.specs.declared.statement.Parsed.{Parsed}
use Rattle.sqlite.specs.Table.{Table}
use Rattle.sqlite.specs.Schema.{Schema}
use Rattle.sqlite_resolve.specs.Define as define
use Rattle.sqlite_resolve.specs.Compile.{first, is_reserved}
use Rattle.sqlite_schema.specs.Names.{table_named, view_named, index_named}
use Rattle.sqlite.specs.Effect.{Database, IsDatabase}
use Rattle.sqlite.specs.Change.{created, next_tree, KeepsRows}
use Rattle.sqlite.specs.Does.{lacks_sequence}
use Rattle.store_sql.specs.Known.{counters}

-- the text is a CREATE TABLE of this table
pub record Makes (text : List ℕ) (p : Parsed) (def : Written) (t : Table) : Type 0 where
  pub parsed : first text ≡ Ok p
  pub statement : p.statement ≡ written.CreateTable def
  pub name : def.name ≡ t.name
  pub free : is_reserved def.name ≡ false
  pub defined : define.table p.formats def ≡ Ok t
  pub fits : (length t.computed == length t.stamps.places && not def.resolves) ≡ true
  pub whole : slice_range text p.start p.end ≡ text

-- no object of the schema has the name
pub record IsFree (schema : Schema) (name : List ℕ) : Type 0 where
  pub table : table_named schema name ≡ None
  pub view : view_named schema name ≡ None
  pub index : index_named schema name ≡ None

-- the table is made, before the count is
pub record Created (t : Table) (old : Database) (mid : Database) : Type 0 where
  pub schema : mid.schema ≡ created old.schema t
  pub empty : mid.trees (next_tree old.schema) ≡ []
  pub rows : KeepsRows old.schema.tables old.trees mid.trees

abbrev pub MakesText : List ℕ → Table → Type 0
MakesText text t = (p : Parsed) × (def : Written) × Makes text p def t

-- with the table of the counts, where this is the first that counts
abbrev pub grown : Schema → Table → Schema
grown schema t = if lacks_sequence (created schema t) then created (created schema t) (counters 0) else created schema t

pub record IsBlank (schema : Schema) (db : Database) : Type 0 where
  pub is : db.schema ≡ schema
  pub empty : AllByRecursion (λ t. db.trees t.tree ≡ []) schema.tables

abbrev pub Grows : List ℕ → Database → Database → Type 0
Grows text old new = (schema : Schema) (t : Table) → MakesText text t → IsFree schema t.name
    → IsBlank schema old → IsBlank (grown schema t) new

-- the same, and the new database obeys its schema
abbrev pub GrowsSoundly : List ℕ → Database → Database → Type 0
GrowsSoundly text old new = Grows text old new × ((schema : Schema) (t : Table) → MakesText text t
    → IsFree schema t.name → IsBlank schema old → IsDatabase new)

abbrev pub no_schema : Schema
no_schema = record { tables = []; indexes = []; views = [] }
