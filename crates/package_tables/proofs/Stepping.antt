-- Calls on the tables as steps of a transaction.
use Rattle.std.proofs.Common.{◌≡◌, true, Result, Ok, Err, IsTrue, ◌∙◌}
use Rattle.std.specs.Prelude.{IsOk, MatchResult}
use Rattle.sqlite.specs.Effect.{Database}
use Rattle.sqlite.specs.declared.error.Error.{Error}
use Rattle.sqlite.specs.State.{State, Survives}
use Rattle.store_sql.specs.Transactions.{Made, Steps}
use Rattle.sqlite.proofs.InsideLemmas.{unchanged_keeps}
use Rattle.package_tables.specs.Package.{Tables}
use Rattle.package_tables.specs.Faults.{fault_of}
use Rattle.package_tables.specs.declared.fault.Fault.{Fault}
use Rattle.package_tables.specs.Calls.{MakesInside, Makes, TellsInside, Tells, Answers, OnTables}

-- a write
pub makes_steps : {X E : Type 0} (Change : Tables → Tables → Type 0) {old new : State} {r : Result X E}
    → Makes Change old new r → Survives old new (λ _. ⊥) → Steps (λ _. OnTables Change) old new r
makes_steps {X} {E} Change {old} {new} {r} makes survives = record
    { made = λ clean inside. at r (makes clean inside); survives = survives }
  where
    at : (r : Result X E) → MakesInside Change old new r → Made (λ _. OnTables Change) old new r
    at (Ok x) it = (it.0.mode, record { was_open = λ _. it.0.was_open; committed = λ _. it.0.committed_is }, it.1)
    at (Err e) it = unchanged_keeps old new it

-- a look-up
pub tells_steps : {X E : Type 0} (Answer : Tables → X → Type 0) {old new : State} {r : Result X E}
    → Tells Answer old new r → Survives old new (λ _. ⊥) → Steps (Answers Answer) old new r
tells_steps {X} {E} Answer {old} {new} {r} tells survives = record
    { made = λ clean inside. at r inside (tells clean); survives = survives }
  where
    at : (r : Result X E) → IsTrue old.in_transaction → TellsInside Answer old new r
        → Made (Answers Answer) old new r
    at (Ok x) inside it = (
      it.0.0.mode ∙ inside_is inside,
      record
          { was_open = λ _. it.0.0.was_open; committed = λ _. it.0.0.committed_is },
      (it.0.0.now_is, it.1),
    )
      where
        inside_is : IsTrue old.in_transaction → old.in_transaction ≡ true
        inside_is h = h
    at (Err e) inside it = unchanged_keeps old new it

-- the answer of a statement is handed on as one of this crate
pub settled_steps : {X Y : Type 0} {Change : Database → Database → Type 0} {old new : State} {r : Result X Error}
    (s : Result Y Fault) → MatchResult r (λ _. IsOk s) (λ e. s ≡ Err (fault_of e))
    → Steps (λ _. Change) old new r → Steps (λ _. Change) old new s
settled_steps {X} {Y} {Change} {old} {new} {r} s settled h =
    record { made = λ clean inside. at r s settled (h.made clean inside); survives = h.survives }
  where
    at : (r : Result X Error) (s : Result Y Fault) → MatchResult r (λ _. IsOk s) (λ e. s ≡ Err (fault_of e))
        → Made (λ _. Change) old new r → Made (λ _. Change) old new s
    at (Ok x) (Ok y) settled it = it
    at (Ok x) (Err f) settled it = absurd (let k = settled in cc)
    at (Err e) (Ok y) settled it = absurd (let k = settled in cc)
    at (Err e) (Err f) settled it = it
