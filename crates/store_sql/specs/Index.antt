-- What CREATE INDEX makes of a schema.
use Rattle.std.specs.Prelude.{◌≡◌, ℕ, List, [], slice_range, false, Ok}
use Rattle.sqlite_ast.specs.declared.CreateIndex.{CreateIndex as Written}
use Rattle.sqlite_ast.specs.declared.Statement.TheVariants as written
use Rattle.sqlite_syntax.specs.declared.statement.Parsed.{Parsed}
use Rattle.sqlite.specs.Table.{Table}
use Rattle.sqlite_schema.specs.declared.schema.Index.{Index}
use Rattle.sqlite_resolve.specs.Define as define
use Rattle.sqlite_resolve.specs.Compile.{first, is_reserved}
use Rattle.sqlite.specs.Effect.{Database}
use Rattle.sqlite.specs.Change.{indexed, KeepsRows}

-- the text is a CREATE INDEX of this index on this table
pub record MakesIndex (text : List ℕ) (p : Parsed) (def : Written) (t : Table) (i : Index) : Type 0 where
  pub parsed : first text ≡ Ok p
  pub statement : p.statement ≡ written.CreateIndex def
  pub formats : p.formats ≡ []
  pub table : def.table ≡ t.name
  pub table_free : is_reserved def.table ≡ false
  pub name : def.name ≡ i.name
  pub free : is_reserved def.name ≡ false
  pub defined : define.index t def ≡ Ok i
  pub whole : slice_range text p.start p.end ≡ text

abbrev pub MakesIndexText : List ℕ → Table → Index → Type 0
MakesIndexText text t i = (p : Parsed) × (def : Written) × MakesIndex text p def t i

-- the index is there, and no table and no row changed
pub record Indexed (t : Table) (i : Index) (old new : Database) : Type 0 where
  pub schema : new.schema ≡ indexed old.schema t i
  pub rows : KeepsRows old.schema.tables old.trees new.trees
