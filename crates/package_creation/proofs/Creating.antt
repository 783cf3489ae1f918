-- A database with the tables of a package and no rows says that they are empty.
use Rattle.std.proofs.Common.{◌≡◌, [], ◌∷◌, true, Result, Ok, Err, refl}
use Rattle.std.specs.Prelude.{OnOk}
use Rattle.sqlite.specs.Effect.{Database}
use Rattle.sqlite.specs.State.{State, HasCleanDisk, KeepsCommit, Survives}
use Rattle.sheet_types.specs.declared.frame.Frame.{Frame}
use Rattle.package_tables.specs.Listed.{heads}
use Rattle.package_tables.specs.Changes.{Adds}
use Rattle.package_tables.specs.declared.rows.HeadRow.{HeadRow}
use Rattle.package_tables.proofs.Written.{heads_listed}
use Rattle.package_tables.proofs.InTurn.{Done, made_by, becomes_first}
use Rattle.store_sql.specs.Transactions.{Made, Steps}
use Rattle.store_sql.proofs.Transactions.{steps_then, steps_weaker}
use Rattle.package_tables.specs.Package.{Tables}
use Rattle.package_tables.specs.Calls.{OnTables}
use Rattle.package_tables.specs.SchemaMade.{IsNewPackage, BecomesPackage}
use Rattle.package_tables.specs.SchemaMaking.{ChangedInside}
use Rattle.package_tables.specs.Creation.{HoldsTables, Fills, TablesBecome, no_rows, fixed_tables, new_tables}

-- a new package holds nothing
pub new_says : (db : Database) → IsNewPackage db → HoldsTables db no_rows
new_says db h = record { formed = h.formed; says = h.says }

-- the making of the schema, as steps
pub schema_steps : {X E : Type 0} {old new : State} {r : Result X E}
    → (HasCleanDisk new → old.in_transaction ≡ true → OnOk r (ChangedInside BecomesPackage old new))
    → (HasCleanDisk new → KeepsCommit old new) → Survives old new (λ _. ⊥)
    → Steps (λ _. Fills no_rows) old new r
schema_steps {X} {E} {old} {new} {r} made kept survives = record
    { made = λ clean inside. at r (made clean inside) (kept clean); survives = survives }
  where
    at : (r : Result X E) → OnOk r (ChangedInside BecomesPackage old new) → KeepsCommit old new
        → Made (λ _. Fills no_rows) old new r
    at (Ok x) it keeps = (it.shown.mode, keeps, λ blank. new_says new.now (it.changed blank))
    at (Err e) it keeps = keeps

-- a change of tables that are known
pub says_then : {X Y E F : Type 0} (t u : Tables) {old mid new : State} {x : X} {r : Result Y F}
    → Steps {E = E} (λ _. Fills t) old mid (Ok x) → Steps (λ _. OnTables (TablesBecome t u)) mid new r
    → Steps (λ _. Fills u) old new r
says_then {X} {Y} {E} {F} t u {old} {mid} {new} {x} {r} first next =
    steps_weaker (λ _. Fills u) (λ y it blank. let was = it.1 blank in let both =
    it.2 was.formed in record { formed = both.0; says = both.1 was.says })
    (steps_then {X = X} {E = E} {First = λ _. Fills t} {Next = λ _. OnTables (TablesBecome t u)} {x = x} first
    next)

-- the head comes to tables that have none
pub head_becomes : (f : Frame) (head : HeadRow) {old new : State} {r : Done}
    → Steps (λ _. OnTables (Adds heads head)) old new r → Steps
    (λ _. OnTables (TablesBecome (fixed_tables f head.created) (new_tables f head))) old new r
head_becomes f head h = becomes_first heads (fixed_tables f head.created) (head ∷ []) refl
    (made_by heads_listed head [] (head ∷ []) refl refl h)
