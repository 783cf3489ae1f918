-- A list of stores, of which one at a time takes a turn, and what a crash may leave of them all.
use Rattle.std.specs.Prelude.{◌⊎◌, List, All}
use Rattle.std.specs.List.{AllZip}
use Rattle.sqlite.specs.Tree.{Trees}
use Rattle.sqlite.specs.Store.{Ghosts}
use Rattle.sqlite.specs.State.{HasCleanDisk}
use Rattle.sqlite.specs.Held.{Held, state}
use Rattle.store_sql.specs.Transactions.{Rests}

-- `conn` is the connection of a member
module _ {S M : Type 0} (g : Ghosts S) (conn : M → Held S) where
  -- no store is inside a transaction
  abbrev pub AllRest : List M → Type 0
  AllRest = All (λ m. Rests (state g (conn m)))

  abbrev pub AllClean : List M → Type 0
  AllClean = All (λ m. HasCleanDisk (state g (conn m)))

  -- these contents, one for each store, are what a crash may leave
  abbrev pub MayLeave : List M → List Trees → Type 0
  MayLeave = AllZip (λ m db. (state g (conn m)).may_leave db)

  module _ {P : Type 0} (Reads : Trees → P → Type 0) where
    -- whatever a crash leaves of each store reads as its part of this world
    abbrev pub EachLeaves : List M → List P → Type 0
    EachLeaves = AllZip (λ m p. (db : Trees) → (state g (conn m)).may_leave db → Reads db p)

    -- a crash leaves one of two worlds, whole
    abbrev pub LeavesEither : List M → List P → List P → Type 0
    LeavesEither members before after = AllClean members → (dbs : List Trees) → MayLeave members dbs
        → AllZip Reads dbs before ⊎ AllZip Reads dbs after
