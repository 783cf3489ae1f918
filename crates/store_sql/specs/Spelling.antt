-- How a store spells a table: what it says of it besides the name, the columns and the rowid. A statement means the
-- same under each spelling.
use Rattle.std.specs.Prelude.{◌≡◌, ◌⊎◌, ℕ, List, [], Any}
use Rattle.std.specs.List.{AllByRecursion}
use Rattle.sqlite.specs.Table.{Table}
use Rattle.sqlite.specs.Schema.{Schema}
use Rattle.sqlite_schema.specs.declared.schema.Reference.{Reference}
use Rattle.sqlite_value.specs.declared.keys.Order.{Order}
use Rattle.sqlite_value.specs.Keys.{plain, undirected}
use Rattle.store_sql.specs.Known.{HasTable}

-- the tree, the places of the primary key and of each UNIQUE, the order of the index of each, and the foreign keys
pub record Spelling : Type 0 where
  pub tree : ℕ
  pub primary : List ℕ
  pub uniques : List (List ℕ)
  pub orders : List Order
  pub references : List Reference

-- the table, spelled so
abbrev pub spelled : (ℕ → Table) → Spelling → Table
spelled table s = record (table s.tree) {
  primary = s.primary;
  uniques = s.uniques;
  orders = s.orders;
  references = s.references;
}

-- how the table itself is spelled
abbrev pub spelling_of : Table → Spelling
spelling_of t = record {
  tree = t.tree;
  primary = t.primary;
  uniques = t.uniques;
  orders = t.orders;
  references = t.references;
}

-- a table that says nothing of its keys
abbrev pub unspelled : Spelling
unspelled = record { tree = 0; primary = []; uniques = []; orders = []; references = [] }

-- ---- what a spelling may be: keys are sets of columns, and so are the keys of a table and its foreign keys

pub record HasPlace (key : List ℕ) (p : ℕ) : Type 0 where
  pub one : Any (λ q. q ≡ p) key

-- the same places, in whatever order
abbrev pub IsSameKey : List ℕ → List ℕ → Type 0
IsSameKey a b = AllByRecursion (HasPlace b) a × AllByRecursion (HasPlace a) b

pub record HasKey (keys : List (List ℕ)) (key : List ℕ) : Type 0 where
  pub one : Any (IsSameKey key) keys

abbrev pub AreSameKeys : List (List ℕ) → List (List ℕ) → Type 0
AreSameKeys a b = AllByRecursion (HasKey b) a × AllByRecursion (HasKey a) b

-- A reference without columns names the primary key of its parent, which is what each reference here means.
abbrev pub Names : Reference → Reference → Type 0
Names written meant = (written ≡ meant) ⊎ (written ≡ record meant { parent_columns = [] })

pub record IsMeant (references : List Reference) (written : Reference) : Type 0 where
  pub one : Any (Names written) references

pub record IsWritten (references : List Reference) (meant : Reference) : Type 0 where
  pub one : Any (λ r. Names r meant) references

-- The spelling says the keys of the table. Their texts compare by their bytes; an index may rise or fall.
pub record IsSpelling (t : Table) (s : Spelling) : Type 0 where
  pub primary : IsSameKey s.primary t.primary
  pub uniques : AreSameKeys s.uniques t.uniques
  pub orders : AllByRecursion (λ o. undirected o ≡ plain) s.orders
  pub meant : AllByRecursion (IsMeant t.references) s.references
  pub written : AllByRecursion (IsWritten s.references) t.references

-- the schema has the table at some place, under some tree number, however its keys are spelled
pub record IsPlaced (schema : Schema) (table : ℕ → Table) : Type 0 where
  pub at : ℕ
  pub spelling : Spelling
  pub meant : IsSpelling (table 0) spelling
  pub has : HasTable schema at (spelled table spelling)
