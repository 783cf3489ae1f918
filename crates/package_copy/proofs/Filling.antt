-- The lists of a package's tables that are filled in turn, where none of them has a row.
use Rattle.std.proofs.Common.{◌≡◌, List, [], ap, subst, ◌∙◌}
use Rattle.sqlite.specs.State.{State}
use Rattle.store_sql.specs.Transactions.{Steps}
use Rattle.store_sql.proofs.Transactions.{steps_then, steps_weaker}
use Rattle.package_tables.specs.Calls.{OnTables}
use Rattle.package_tables.specs.Changes.{ListBecomes}
use Rattle.package_tables.specs.Listed.{Listed}
use Rattle.package_tables.specs.Package.{Tables, tables_of}
use Rattle.package_tables.proofs.InTurn.{Done, done}
use Rattle.package_copy.specs.Copies.{AreEmpty}

-- tables that have no row of these lists become so
abbrev pub Becomes : (Tables → Tables) → Tables → Tables → Type 0
Becomes filled before after = AreEmpty before → after ≡ filled before

module _ {R : Type 0} (list : Listed R) (xs : List R) {ys : List R} (same : ys ≡ xs) where
  known : {old new : State} {r : Done} → Steps (λ _. OnTables (ListBecomes list [] ys)) old new r
      → Steps (λ _. OnTables (ListBecomes list [] xs)) old new r
  known {old} {new} {r} h = subst (λ l. Steps (λ _. OnTables (ListBecomes list [] l)) old new r) same h

  pub fills_first : {old new : State} {r : Done} → ((t : Tables) → AreEmpty t → list.rows t ≡ [])
      → Steps (λ _. OnTables (ListBecomes list [] ys)) old new r
      → Steps (λ _. OnTables (Becomes (λ t. list.with_rows xs t))) old new r
  fills_first {old} {new} none h =
      steps_weaker (λ _. OnTables (Becomes (λ t. list.with_rows xs t)))
      (λ x it formed. let one = it formed in (one.0, λ empty. one.1 (none (tables_of old.now) empty))) (known h)

  pub fills_then : (filled : Tables → Tables) {old mid new : State} {r : Done}
      → ((t : Tables) → AreEmpty t → list.rows (filled t) ≡ [])
      → Steps (λ _. OnTables (Becomes filled)) old mid done → Steps (λ _. OnTables (ListBecomes list [] ys)) mid
      new r
      → Steps (λ _. OnTables (Becomes (λ t. list.with_rows xs (filled t)))) old new r
  fills_then filled {old} {mid} {new} none first next =
      steps_weaker (λ _. OnTables (Becomes (λ t. list.with_rows xs (filled t))))
      (λ y it formed. let one = it.1 formed in let two = it.2 one.0 in (
        two.0,
        λ empty. let here = one.1 empty in two.1 (ap list.rows here ∙ none (tables_of old.now) empty)
            ∙ ap (list.with_rows xs) here,
      ))
      (steps_then first (known next))
