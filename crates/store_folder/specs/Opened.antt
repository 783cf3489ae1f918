-- A store that was just opened.
use Rattle.sqlite.specs.State.{State, HasCleanDisk}
use Rattle.store_sql.specs.Transactions.{IsAdopted}

-- at rest, and what it shows obeys its schema, with each table in the order of its rowids
abbrev pub IsJustOpened : State → Type 0
IsJustOpened s = HasCleanDisk s → IsAdopted s s.committed.trees
