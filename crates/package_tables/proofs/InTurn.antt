-- Calls that write, one after the other in one transaction.
use Rattle.std.proofs.Common.{◌≡◌, List, [], false, Result, Ok, ap, sym, ◌∙◌}
use Rattle.sqlite.specs.State.{State, Survives}
use Rattle.sheet_types.specs.Ordered.{put, has}
use Rattle.store_sql.specs.Transactions.{Steps}
use Rattle.store_sql.proofs.Transactions.{steps_then, steps_none, steps_weaker}
use Rattle.package_tables.specs.Package.{Tables, tables_of}
use Rattle.package_tables.specs.Listed.{Listed}
use Rattle.package_tables.specs.Calls.{Makes, OnTables}
use Rattle.package_tables.specs.Changes.{Adds, ListBecomes}
use Rattle.package_tables.specs.Creation.{TablesBecome}
use Rattle.package_tables.specs.declared.fault.Fault.{Fault}
use Rattle.package_tables.proofs.Lists.{IsListed}
use Rattle.package_tables.proofs.Stepping.{makes_steps}

-- the steps, with their change as a caller says it
tables_weaker : {X E : Type 0} {A : Tables → Tables → Type 0} (C : Tables → Tables → Type 0) {old new : State}
    {r : Result X E} → ((b a : Tables) → A b a → C b a) → Steps (λ _. OnTables A) old new r
    → Steps (λ _. OnTables C) old new r
tables_weaker C {old} {new} f h = steps_weaker (λ _. OnTables C)
    (λ x it formed. let one = it formed in (one.0, f (tables_of old.now) (tables_of new.now) one.1)) h

-- one call after the other
tables_then : {X Y E F : Type 0} {A B : Tables → Tables → Type 0} (C : Tables → Tables → Type 0)
    {old mid new : State} {x : X} {r : Result Y F} → ((b m a : Tables) → A b m → B m a → C b a)
    → Steps {E = E} (λ _. OnTables A) old mid (Ok x) → Steps (λ _. OnTables B) mid new r
    → Steps (λ _. OnTables C) old new r
tables_then C {old} {mid} {new} f first next =
    steps_weaker (λ _. OnTables C) (λ y it formed. let one = it.1 formed in let two =
    it.2 one.0 in (two.0, f (tables_of old.now) (tables_of it.0) (tables_of new.now) one.1 two.1))
    (steps_then first next)

-- ---- one list of the tables, which calls change in turn

-- what these calls answer
abbrev pub Done : Type 0
Done = Result (Unit {0}) Fault

abbrev pub done : Done
done = Ok tt

module _ {R : Type 0} {list : Listed R} (is : IsListed list) where
  -- a row that comes to a known list makes this list of it
  pub made_by : (row : R) (from to : List R) {old new : State} {r : Done}
      → has list.shape.key (list.shape.key row) from ≡ false → put list.shape.key row from ≡ to
      → Steps (λ _. OnTables (Adds list row)) old new r → Steps (λ _. OnTables (ListBecomes list from to)) old
      new r
  made_by row from to free whole h =
      tables_weaker {A = Adds list row} (ListBecomes list from to)
      (λ b a adds known. adds (ap (has list.shape.key (list.shape.key row)) known ∙ free)
      ∙ ap (λ l. list.with_rows l b) (ap (put list.shape.key row) known ∙ whole)) h

  pub entered_by : (row : R) (from to : List R) {old new : State} {r : Done}
      → has list.shape.key (list.shape.key row) from ≡ false → put list.shape.key row from ≡ to
      → Makes (Adds list row) old new r → Survives old new (λ _. ⊥)
      → Steps (λ _. OnTables (ListBecomes list from to)) old new r
  entered_by row from to free whole wrote survives = made_by row from to free whole
      (makes_steps (Adds list row) wrote survives)

  -- two changes of the list in turn
  pub made_then : (j k l : List R) {old mid new : State} {r : Done}
      → Steps (λ _. OnTables (ListBecomes list j k)) old mid done
      → Steps (λ _. OnTables (ListBecomes list k l)) mid new r
      → Steps (λ _. OnTables (ListBecomes list j l)) old new r
  made_then j k l first next =
      tables_then {A = ListBecomes list j k} {B = ListBecomes list k l} (ListBecomes list j l)
      (λ b m a one two known. let mid = one known in two (ap list.rows mid ∙ is.reads k b)
      ∙ ap (list.with_rows l) mid ∙ is.again k l b) first next

  -- where nothing is done the list stays
  pub made_none : (from to : List R) (s : State) → from ≡ to
      → Steps (λ _. OnTables (ListBecomes list from to)) s s done
  made_none from to s alike = steps_none {E = Fault} (λ _. OnTables (ListBecomes list from to)) s tt
      (λ formed. (
        formed,
        λ known. sym (is.same (tables_of s.now))
            ∙ ap (λ l. list.with_rows l (tables_of s.now)) (known ∙ alike),
      ))

-- tables that are known to the last row, of which one list that was empty is filled
module _ {R : Type 0} (list : Listed R) where
  pub becomes_first : (t : Tables) (to : List R) {old new : State} {r : Done} → list.rows t ≡ []
      → Steps (λ _. OnTables (ListBecomes list [] to)) old new r
      → Steps (λ _. OnTables (TablesBecome t (list.with_rows to t))) old new r
  becomes_first t to none h = tables_weaker {A = ListBecomes list [] to} (TablesBecome t (list.with_rows to t))
      (λ b a set is. set (ap list.rows is ∙ none) ∙ ap (list.with_rows to) is) h

  pub becomes_then : (from t : Tables) (to : List R) {old mid new : State} {r : Done} → list.rows t ≡ []
      → Steps (λ _. OnTables (TablesBecome from t)) old mid done
      → Steps (λ _. OnTables (ListBecomes list [] to)) mid new r
      → Steps (λ _. OnTables (TablesBecome from (list.with_rows to t))) old new r
  becomes_then from t to none first next = tables_then {A = TablesBecome from t} {B = ListBecomes list [] to}
      (TablesBecome from (list.with_rows to t)) (λ b m a one two is. let here =
      one is in two (ap list.rows here ∙ none) ∙ ap (list.with_rows to) here) first next
