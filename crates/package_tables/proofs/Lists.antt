-- What each list of the tables has to meet.
use Rattle.std.proofs.Common.{◌≡◌, ℕ, List}
use Rattle.sqlite.specs.Effect.{Database}
use Rattle.store_sql.specs.Writing.{Spares}
use Rattle.store_sql.specs.Spelling.{Spelling, spelled}
use Rattle.package_tables.specs.Shape.{IsShape, IsFormed, rows_of}
use Rattle.package_tables.specs.Package.{Tables, tables_of, AreFormed}
use Rattle.package_tables.specs.Listed.{Listed}

-- The table is one of the fifteen, a write to it changes this list and no other, and what is set is read.
-- `proofs/Written` has each.
pub record IsListed {R : Type 0} (list : Listed R) : Type 0 where
  pub laws : IsShape list.shape
  pub formed : (db : Database) → AreFormed db → IsFormed list.shape db
  pub lists : (db : Database) → list.rows (tables_of db) ≡ rows_of list.shape db
  pub written : (spelling : Spelling) (old new : Database) → Spares (spelled list.shape.table spelling) old new
      → AreFormed old → IsFormed list.shape new → AreFormed new
      × (tables_of new ≡ list.with_rows (rows_of list.shape new) (tables_of old))
  pub reads : (l : List R) (t : Tables) → list.rows (list.with_rows l t) ≡ l
  pub again : (k l : List R) (t : Tables) → list.with_rows l (list.with_rows k t) ≡ list.with_rows l t
  pub same : (t : Tables) → list.with_rows (list.rows t) t ≡ t
