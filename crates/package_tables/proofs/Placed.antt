-- A table stands under its own spelling where a schema has it as it is written here.
use Rattle.std.proofs.Common.{◌≡◌, ℕ, List, [], ◌∷◌, map, refl}
use Rattle.std.specs.List.{AllByRecursion}
use Rattle.sqlite.specs.Table.{Table}
use Rattle.sqlite.specs.Schema.{Schema}
use Rattle.sqlite_value.specs.Keys.{plain, undirected}
use Rattle.store_sql.specs.Known.{HasTable}
use Rattle.store_sql.specs.Spelling.{Spelling, IsSpelling, IsPlaced, spelled, spelling_of}
use Rattle.store_sql.proofs.Spelling.{own_spelling}

-- the table's own spelling, in a tree
abbrev pub own : (ℕ → Table) → ℕ → Spelling
own table tree = record (spelling_of (table 0)) { tree = tree }

pub plain_keys : (keys : List (List ℕ)) → AllByRecursion (λ o. undirected o ≡ plain) (map (λ _. plain) keys)
plain_keys [] = tt
plain_keys (k ∷ keys) = (refl, plain_keys keys)

pub own_meant : (table : ℕ → Table) → AllByRecursion (λ o. undirected o ≡ plain) (table 0).orders
    → (tree : ℕ) → IsSpelling (table 0) (own table tree)
own_meant table orders tree = let is = own_spelling (table 0) orders in record
    { primary = is.primary; uniques = is.uniques; orders = is.orders; meant = is.meant; written = is.written }

pub own_placed : (schema : Schema) (table : ℕ → Table) → AllByRecursion (λ o. undirected o ≡ plain)
    (table 0).orders → (at tree : ℕ) → HasTable schema at (spelled table (own table tree))
    → IsPlaced schema table
own_placed schema table orders at tree has = record {
  at = at;
  spelling = own table tree;
  meant = own_meant table orders tree;
  has = has;
}
