-- What the entry of a receipt does to the tables. Profile.
use Rattle.std.specs.Prelude.{ℕ, ℤ, Bool, ◌&&◌, List, map, bytes_eq}
use Rattle.std.specs.Ordering.{int_eq}
use Rattle.std.specs.List.{enumerate_from}
use Rattle.sqlite.specs.Effect.{Database}
use Rattle.sheet_types.specs.Texts.{uuid_text}
use Rattle.sheet_types.specs.declared.receipt.Moved.{Moved}
use Rattle.package_tables.specs.Calls.{OnTables}
use Rattle.package_tables.specs.Listed.{moved}
use Rattle.package_tables.specs.Changes.{Adds}
use Rattle.package_tables.specs.declared.rows.MovedRow.{MovedRow}
use Rattle.identity_register.specs.Reads.{moved_row}

-- one row of a moved thing more
abbrev pub Enters : MovedRow → Database → Database → Type 0
Enters row = OnTables (Adds moved row)

-- the rows of things that are moved under a number, by their positions from n
abbrev pub rows_from : ℕ → ℕ → List Moved → List MovedRow
rows_from seq n things = map (λ m. moved_row seq m.0 m.1) (enumerate_from n things)

-- the row of a thing under a number as it is stored, and the rows of things by their positions from 0
abbrev pub row_at : ℤ → ℕ → Moved → MovedRow
row_at seq position m = record (moved_row 0 position m) { seq = seq }

abbrev pub rows_at : ℤ → List Moved → List MovedRow
rows_at seq things = map (λ m. row_at seq m.0 m.1) (enumerate_from 0 things)

-- a row of a thing of this identity and of the kind of this number
abbrev pub is_of : List ℕ → ℤ → MovedRow → Bool
is_of id kind x = bytes_eq x.base (uuid_text id) && int_eq x.kind kind
