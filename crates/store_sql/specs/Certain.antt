-- When the catalogue has no reason to refuse a CREATE.
use Rattle.std.specs.Prelude.{◌≡◌, ℕ, ◌+◌, ◌*◌, ◌^◌, nat_lt, List, [], length, codes, true, false}
use Rattle.std.specs.Prelude.{not, ◌&&◌, ◌==◌, nat_le, MatchBool, ⊤, Ok}
use Rattle.std.specs.List.{AllByRecursion}
use Rattle.std.specs.Str.{is_utf8}
use Rattle.sqlite_syntax.specs.declared.statement.Parsed.{Parsed}
use Rattle.sqlite_value.specs.declared.value.Value.TheVariants.{Text}
use Rattle.sqlite.specs.Table.{Table}
use Rattle.sqlite.specs.Schema.{Schema}
use Rattle.sqlite_schema.specs.declared.schema.Index.{Index}
use Rattle.sqlite_schema.specs.Rules.{table_reals, index_reals}
use Rattle.sqlite_resolve.specs.Compile.{first}
use Rattle.sqlite_catalog.specs.Listing.{is_fit, is_formed}
use Rattle.sqlite_catalog.specs.Change.{next_tree, is_used, is_reserved, automatics, created}
use Rattle.sqlite.specs.Does.{lacks_sequence, sequence_text}
use Rattle.store_sql.specs.Known.{counters}

-- the text is one statement, and takes no parameter
pub record IsAlone (text : List ℕ) : Type 0 where
  pub statement : Parsed
  pub parsed : first text ≡ Ok statement
  pub names : statement.names ≡ []
  pub whole : nat_le (length text) statement.tail ≡ true

-- the names are free, and neither the name, the text nor the schema is too long
pub record FitsTable (schema : Schema) (text : List ℕ) (t : Table) : Type 0 where
  pub free : is_used schema t.name ≡ false
  pub automatic : AllByRecursion (λ i. is_used schema i.name ≡ false) (automatics t 0 0 t.uniques)
  pub utf8 : is_utf8 t.name ≡ true
  pub open_name : (is_reserved t.name && not (length t.uniques == 0)) ≡ false
  pub low : nat_lt (next_tree schema + length t.uniques) 65536 ≡ true
  pub reals : nat_lt (table_reals t) (2 ^ 64) ≡ true
  pub key_reals : AllByRecursion (λ key. nat_lt (index_reals (table_reals t) key) (2 ^ 64) ≡ true) t.uniques
  pub formed : is_formed t ≡ true
  pub fit : is_fit (Text (codes "table")) (Text t.name) (Text t.name) (Text text) ≡ true
  pub short : nat_lt (2 * length t.name + length text + 200) (10 ^ 9) ≡ true

-- the same for the table of the counts, where this is the first table that counts
pub record FitsGrown (schema : Schema) (text : List ℕ) (t : Table) : Type 0 where
  pub alone : IsAlone text
  pub table : FitsTable schema text t
  pub sequence : MatchBool (lacks_sequence (created schema t))
      (FitsTable (created schema t) sequence_text (counters 0)) ⊤

pub record FitsIndex (schema : Schema) (text : List ℕ) (t : Table) (i : Index) : Type 0 where
  pub alone : IsAlone text
  pub free : is_used schema i.name ≡ false
  pub utf8 : (is_utf8 i.name && is_utf8 t.name) ≡ true
  pub open_name : is_reserved i.name ≡ false
  pub low : nat_lt (next_tree schema) 65536 ≡ true
  pub reals : nat_lt (table_reals t) (2 ^ 64) ≡ true
  pub key_reals : nat_lt (index_reals (table_reals t) i.columns) (2 ^ 64) ≡ true
  pub fit : is_fit (Text (codes "index")) (Text i.name) (Text t.name) (Text text) ≡ true
  pub short : nat_lt (length i.name + length t.name + length text + 200) (10 ^ 9) ≡ true
