-- From what a statement makes of a database to what a call makes of the tables.
use Rattle.std.proofs.Common.{◌≡◌, ℕ, List, Bool, true, Result, Ok, Err, ap, subst, ◌∙◌}
use Rattle.std.specs.Prelude.{IsOk, MatchResult}
use Rattle.sqlite.specs.Order.{Row}
use Rattle.sqlite.specs.Effect.{Database}
use Rattle.sqlite.specs.declared.error.Error.{Error}
use Rattle.sqlite.specs.declared.types.Value.{Value}
use Rattle.sqlite.specs.State.{State, ExecutesInside}
use Rattle.sqlite_trees.specs.View.{is_int}
use Rattle.store_sql.specs.Reading.{Test, passes}
use Rattle.store_sql.proofs.Where.{are_given}
use Rattle.store_sql.proofs.Insert.{IsInsert, IsRow, inserted_inside}
use Rattle.store_sql.proofs.Delete.{IsDelete, IsPlannedDelete, removed_inside}
use Rattle.store_sql.specs.Writing.{Inserts, Deletes, WritesInside}
use Rattle.store_sql.specs.Spelling.{Spelling, spelled}
use Rattle.package_tables.specs.Package.{Tables, tables_of, AreFormed}
use Rattle.package_tables.specs.Listed.{Listed}
use Rattle.package_tables.specs.Calls.{MakesInside}
use Rattle.package_tables.specs.Changes.{Adds, Drops}
use Rattle.package_tables.specs.Faults.{fault_of}
use Rattle.package_tables.specs.declared.fault.Fault.{Fault}
use Rattle.package_tables.proofs.Lists.{IsListed}
use Rattle.package_tables.proofs.Shapes.{inserted, deleted}

-- a statement's change of the database is a change of the tables
pub makes : {X Y : Type 0} (Writes : Database → Database → Type 0) (Change : Tables → Tables → Type 0)
    (old new : State) (r : Result X Error) (s : Result Y Fault)
    → (AreFormed old.now → Writes old.now new.now → AreFormed new.now
    × Change (tables_of old.now) (tables_of new.now))
    → MatchResult r (λ _. IsOk s) (λ e. s ≡ Err (fault_of e)) → WritesInside Writes old new r
    → MakesInside Change old new s
makes Writes Change old new (Ok x) (Ok y) means settled it = (it.0, λ formed. means formed it.1)
makes Writes Change old new (Ok x) (Err f) means settled it = absurd (let k = settled in cc)
makes Writes Change old new (Err e) (Ok y) means settled it = absurd (let k = settled in cc)
makes Writes Change old new (Err e) (Err f) means settled it = it

module _ {R : Type 0} {list : Listed R} (is : IsListed list) where
  puts : (row : List Row → Row) (x : R) (old new : Database) → AreFormed old
      → ((there : List Row) → (v : Value) × (is_int v ≡ true) × (row there ≡ list.shape.stored v x))
      → Inserts list.shape.table row old new
      → AreFormed new × Adds list x (tables_of old) (tables_of new)
  puts row x old new formed laid inserts =
      let here = is.formed old formed in
      let did = inserted list.shape is.laws row x old new inserts formed.quiet here laid in
      let both = is.written here.placed.spelling old new (inserts here.placed.at here.placed.spelling here.placed.has
      formed.quiet).spares formed did.0 in
      (both.0, rw (is.lists old) (λ fresh. both.1 ∙ ap (λ l. list.with_rows l (tables_of old)) (did.1 fresh)))

  drops : (goes : Row → Bool) (test : R → Bool) (old new : Database) → AreFormed old
      → ((v : Value) (x : R) → goes (list.shape.stored v x) ≡ test x) → Deletes list.shape.table goes old new
      → AreFormed new × Drops list test (tables_of old) (tables_of new)
  drops goes test old new formed same deletes =
      let here = is.formed old formed in
      let did = deleted list.shape is.laws goes test old new deletes formed.quiet here same in
      let both = is.written here.placed.spelling old new (deletes here.placed.at here.placed.spelling here.placed.has
      formed.quiet).spares formed did.0 in
      (both.0, rw (is.lists old) (both.1 ∙ ap (λ l. list.with_rows l (tables_of old)) did.1))

-- A row comes in by an INSERT, and rows go by a DELETE, inside a transaction. What the parameters
-- are is said of them alone: a rewriting in all that an execution says costs seconds.
module _ {R : Type 0} {list : Listed R} (is : IsListed list) where
  pub enters : {Y : Type 0} {text : List ℕ} {params : Row} {row : List Row → Row} (x : R)
      → ((spelling : Spelling) → IsInsert text (spelled list.shape.table spelling))
      → ((spelling : Spelling) (there : List Row) → IsRow (spelled list.shape.table spelling) params there
      (row there))
      → ((there : List Row) → (v : Value) × (is_int v ≡ true) × (row there ≡ list.shape.stored v x))
      → (old new : State) (r : Result ℕ Error) (s : Result Y Fault)
      → MatchResult r (λ _. IsOk s) (λ e. s ≡ Err (fault_of e))
      → (told : Row) → told ≡ params → ExecutesInside 0 text told old new r
      → MakesInside (Adds list x) old new s
  enters {Y} {text} {params} {row} x inserts given laid old new r s settled told are ran =
      makes (Inserts list.shape.table row) (Adds list x) old new r s
      (λ formed. puts is row x old.now new.now formed laid) settled
      (inserted_inside text list.shape.table inserts params row given old new r
      (subst (λ ps. ExecutesInside 0 text ps old new r) are ran))

  pub leaves : {Y : Type 0} {text : List ℕ} {by : Test} (goes : Row → Bool) (test : R → Bool)
      → ((v : Value) (x : R) → goes (list.shape.stored v x) ≡ test x)
      → ((spelling : Spelling) → IsDelete text (spelled list.shape.table spelling) by)
      → ((spelling : Spelling) → IsPlannedDelete (spelled list.shape.table spelling) by) → (params : Row)
      → are_given by params ≡ true → ((spelling : Spelling)
      → ◌≡◌ {A = Row → Bool} (λ r. passes (spelled list.shape.table spelling) by params r) goes)
      → (old new : State) (r : Result ℕ Error) (s : Result Y Fault)
      → MatchResult r (λ _. IsOk s) (λ e. s ≡ Err (fault_of e)) → ExecutesInside 0 text params old new r
      → MakesInside (Drops list test) old new s
  leaves {Y} {text} {by} goes test same deletes planned params given passing old new r s settled ran =
      makes (Deletes list.shape.table goes) (Drops list test) old new r s
      (λ formed. drops is goes test old.now new.now formed same) settled
      (removed_inside text list.shape.table by deletes planned params given goes passing old new r ran)
