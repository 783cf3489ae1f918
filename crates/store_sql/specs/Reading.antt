-- What a SELECT answers.
use Rattle.std.specs.Prelude.{◌≡◌, ◌⊎◌, ℕ, Bool, true, false, not, ◌&&◌, List, [], ◌∷◌, map}
use Rattle.std.specs.Prelude.{filter}
use Rattle.std.specs.List.Sorted.{IsPermutation, IsSorted}
use Rattle.std.specs.List.{AllByRecursion}
use Rattle.std.specs.Ordering.{on, is_eq, is_gt}
use Rattle.sqlite_rules.specs.Lists.{Has}
use Rattle.sqlite.specs.Collation.TheVariants.{Binary}
use Rattle.sqlite.specs.declared.types.Value.{Value}
use Rattle.sqlite.specs.Order.{Row, column}
use Rattle.sqlite_value.specs.Order.{value_cmp}
use Rattle.sqlite_value.specs.declared.keys.Key.{Key}
use Rattle.sqlite.specs.Query.{key_cmp}
use Rattle.sqlite.specs.Ops.{is_null, test}
use Rattle.sqlite_sql.specs.declared.ops.CompareOp.{CompareOp}
use Rattle.sqlite.specs.Table.{Table}
use Rattle.sqlite_schema.specs.Names.{place_of}
use Rattle.sqlite.specs.State.{State, IsUnchanged}
use Rattle.sqlite.specs.Effect.{Database}
use Rattle.store_sql.specs.Spelling.{Spelling, spelled}
use Rattle.store_sql.specs.Known.{HasTable}

-- the values are equal, as SQLite compares them
abbrev pub is_same : Value → Value → Bool
is_same a b = is_eq (value_cmp a b)

-- A value stands so to another, as SQLite compares them. NULL stands in no way to anything.
abbrev pub stands : CompareOp → Value → Value → Bool
stands op a b = not (is_null a) && test op (value_cmp a b)

-- a condition on a row: a column, by its number, equals a parameter, by its number from 0, or stands to it in another
-- way
pub data Test : Type 0 where
  always : Test
  equals : ℕ → ℕ → Test
  compares : CompareOp → ℕ → ℕ → Test
  both : Test → Test → Test

abbrev pub passes : Table → Test → Row → Row → Bool
passes t always params r = true
passes t (equals k j) params r = is_same (column r (place_of t k)) (column params j)
passes t (compares op k j) params r = stands op (column r (place_of t k)) (column params j)
passes t (both x y) params r = passes t x params r && passes t y params r

abbrev pub ascending : Key
ascending = record { collation = Binary; descending = false }

abbrev pub descending : Key
descending = record { collation = Binary; descending = true }

-- the rows that a SELECT was to show, in an order that ORDER BY allows
pub record IsListing (key shown : Row → Row) (by : List Key) (table rows : List Row) : Type 0 where
  pub ordered : List (Row × Row)
  pub same : IsPermutation (map (λ r. (key r, shown r)) table) ordered
  pub sorted : IsSorted (on (λ o. o.0) (key_cmp 0 by)) ordered
  pub shows : rows ≡ map (λ o. o.1) ordered

-- how a SELECT shows and sorts the rows that it keeps
pub record Listing : Type 0 where
  pub keeps : Row → Bool
  pub key : Row → Row
  pub shown : Row → Row
  pub by : List Key

-- The answer is the listing of the table's rows, and the call changed nothing.
abbrev pub Lists : (ℕ → Table) → Listing → State → State → List Row → Type 0
Lists table l old new rows = (at : ℕ) (spelling : Spelling) → HasTable old.now.schema at (spelled table spelling)
    → IsListing l.key l.shown l.by (filter l.keeps (old.now.trees (spelled table spelling).tree)) rows
    × IsUnchanged old new

-- The same over databases, for a read among other steps: the rows are the listing, and the database is as it was.
pub record Finds (table : ℕ → Table) (l : Listing) (rows : List Row) (old new : Database) : Type 0 where
  pub same : new ≡ old
  pub listed : (at : ℕ) (spelling : Spelling) → HasTable old.schema at (spelled table spelling)
      → IsListing l.key l.shown l.by (filter l.keeps (old.trees (spelled table spelling).tree)) rows

-- of these rows, one that no other comes before
pub record ComesFirst (key : Row → Row) (by : List Key) (rows : List Row) (r : Row) : Type 0 where
  pub there : Has rows r
  pub least : AllByRecursion (λ x. is_gt (key_cmp 0 by (key r) (key x)) ≡ false) rows

-- what LIMIT 1 shows: nothing where no row passes, or else the row that comes first
abbrev pub ShowsFirst : (Row → Row) → (Row → Row) → List Key → List Row → List Row → Type 0
ShowsFirst key shown by table rows = ((table ≡ []) × (rows ≡ []))
    ⊎ ((r : Row) × ComesFirst key by table r × (rows ≡ shown r ∷ []))

-- The answer is the first row of the listing, if there is one, and the database is as it was.
pub record FindsFirst (table : ℕ → Table) (l : Listing) (rows : List Row) (old new : Database) : Type 0 where
  pub same : new ≡ old
  pub first : (at : ℕ) (spelling : Spelling) → HasTable old.schema at (spelled table spelling)
      → ShowsFirst l.key l.shown l.by (filter l.keeps (old.trees (spelled table spelling).tree)) rows
