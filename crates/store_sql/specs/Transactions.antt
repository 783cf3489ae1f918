-- What one transaction makes of one store, and what a crash leaves of it.
use Rattle.std.specs.Prelude.{◌≡◌, ℕ, ◌⊎◌, true, false, Result, Ok, Err, IsTrue, IfOk, OnErr, List}
use Rattle.sqlite.specs.Tree.{Trees}
use Rattle.sqlite.specs.Effect.{Database, IsDatabase}
use Rattle.sqlite.specs.declared.error.Error.{Error}
use Rattle.store_sql.specs.Writing.{EachChained, AreKeyed}
use Rattle.sqlite.specs.State.{State, HasCleanDisk, KeepsCommit, Survives, ExecutesInside, FailsToQuery, IsTooLate}
use Rattle.sqlite.specs.Order.{Row}

-- The store is not inside a transaction, so it sees what was committed.
pub record Rests (s : State) : Type 0 where
  pub autocommit : s.in_transaction ≡ false
  pub settled : IsTrue s.is_open → s.now ≡ s.committed

-- It is open and at rest, it shows this database, and a crash leaves its trees alone.
pub record Holds (s : State) (db : Database) : Type 0 where
  pub is_open : IsTrue s.is_open
  pub rests : Rests s
  pub now_is : s.now ≡ db
  pub left : (trees : Trees) → s.may_leave trees → trees ≡ db.trees

-- what every call inside a transaction owes: nothing is committed, and a crash has no new outcome
pub record Inside (old new : State) : Type 0 where
  pub kept : HasCleanDisk new → KeepsCommit old new
  pub survives : Survives old new (λ _. ⊥)

-- Ok leaves the transaction open and made the change, which may depend on the answer. Either way nothing is committed.
abbrev pub Made : {X E : Type 0} → (X → Database → Database → Type 0) → State → State → Result X E
    → Type 0
Made Changes old new (Ok x) = (new.in_transaction ≡ true) × KeepsCommit old new × Changes x old.now new.now
Made Changes old new (Err e) = KeepsCommit old new

-- some statements inside a transaction
pub record Steps {X E : Type 0} (Changes : X → Database → Database → Type 0) (old new : State)
    (r : Result X E) : Type 0 where
  pub made : HasCleanDisk new → IsTrue old.in_transaction → Made Changes old new r
  pub survives : Survives old new (λ _. ⊥)

-- the same of a loop that made one change for each of these items so far
abbrev pub EachStep : {X : Type 0} → (X → Database → Database → Type 0) → List X → State → State
    → Type 0
EachStep Change xs old new = Steps {X = Unit {0}} {E = Error} (λ _. EachChained Change xs) old new (Ok tt)

-- the trees of a database that the change makes, with some answer
abbrev pub WouldLeave : {X : Type 0} → (X → Database → Database → Type 0) → Database → Trees → Type 0
WouldLeave {X} Changes old trees = (x : X) × (new : Database) × Changes x old new × (trees ≡ new.trees)

-- A whole transaction: after Ok the store holds the changed database, and after an error the old one.
-- Only where the commit failed and shut the store may a crash leave either.
pub record Turns {X E : Type 0} (Changes : X → Database → Database → Type 0) (old new : State)
    (r : Result X E) : Type 0 where
  pub rests : Rests new
  pub done : HasCleanDisk new → IfOk r (λ x. Changes x old.now new.now × Holds new new.now)
  pub undone : OnErr r (IsTrue new.is_open → Holds new old.now)
  pub left : HasCleanDisk new → IsTrue old.is_open → (trees : Trees) → new.may_leave trees
      → (trees ≡ old.now.trees) ⊎ WouldLeave Changes old.now trees
  pub survives : Survives old new (WouldLeave Changes old.now)

-- a read of a store at rest, which stays at rest and holds what it held
pub record Looks {X E : Type 0} (Answers : X → Database → Database → Type 0) (old new : State)
    (r : Result X E) : Type 0 where
  pub rests : Rests new
  pub done : HasCleanDisk new → IfOk r (λ x. IsTrue new.is_open × Answers x old.now new.now)
  pub was_open : IsTrue new.is_open → IsTrue old.is_open
  pub holds : IsTrue new.is_open → Holds new old.now
  pub survives : Survives old new (λ _. ⊥)

-- A store that was just opened is at rest and holds these trees. They obey its schema, which they list, and each
-- table is in the order of its rowids.
pub record IsAdopted (s : State) (trees : Trees) : Type 0 where
  pub holds : Holds s s.now
  pub trees_are : s.now.trees ≡ trees
  pub sound : IsDatabase s.now
  pub keyed : AreKeyed s.now

-- Why a statement inside a transaction failed: the engine did not take it or refused it on this database, and nothing
-- is changed, or the store failed, and the transaction is undone.
abbrev pub IsExcused : List ℕ → Row → State → State → Error → Type 0
IsExcused sql params old new e = HasCleanDisk new → IsTrue old.in_transaction
    → ExecutesInside 0 sql params old new (Err e)

-- the same of a query
abbrev pub IsUnanswered : List ℕ → Row → State → State → Error → Type 0
IsUnanswered sql params old new e = HasCleanDisk new → FailsToQuery sql params old new e
    ⊎ IsTooLate sql params old new e
