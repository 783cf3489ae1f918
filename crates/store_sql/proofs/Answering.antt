-- A SELECT changes nothing, whatever it answers and however it fails.
use Rattle.std.proofs.Common.{◌≡◌, ◌⊎◌, inl, inr, ℕ, Bool, true, false, cond, Option, None, List}
use Rattle.std.proofs.Common.{Result, Ok, Err, IsTrue, refl, sym, ap, subst, ◌∙◌}
use Rattle.std.specs.Prelude.{IfOk, IfErr}
use Rattle.sqlite.specs.Tree.{Trees}
use Rattle.sqlite.specs.Store.{Ghosts}
use Rattle.sqlite_ast.specs.declared.Select.{Select as Written}
use Rattle.sqlite_ast.specs.declared.Statement.TheVariants as written
use Rattle.sqlite_syntax.specs.declared.statement.Parsed.{Parsed}
use Rattle.sqlite_schema.specs.declared.command.Command.{Command}
use Rattle.sqlite_schema.specs.declared.command.Returning.{Returning}
use Rattle.sqlite_resolve.specs.declared.compiled.Compiled.{Compiled}
use Rattle.sqlite_resolve.specs.declared.error.CompileError.{CompileError}
use Rattle.sqlite_resolve.specs.declared.error.CompileError.TheVariants.{NoSuchTable}
use Rattle.sqlite_resolve.specs.Lowering.{Checked, and_then}
use Rattle.sqlite_resolve.specs.Compile.{first, compiled, planned, meaning, timed, returning, with_command}
use Rattle.sqlite.specs.Listing.{understood, reads_listing, listing_schema, is_select, if_select}
use Rattle.sqlite.specs.Order.{Row}
use Rattle.sqlite.specs.Schema.{Schema}
use Rattle.sqlite.specs.Effect.{Database}
use Rattle.sqlite.specs.declared.error.Error.{Error}
use Rattle.sqlite.specs.State.{State, HasCleanDisk, IsUnchanged, KeepsCommit, Survives, Shown, ShowsRows, IsNotRun}
use Rattle.sqlite.specs.State.{FailsToQuery, FailsToShow, IsTooLate, CommitsShowing, IsRolledBack}
use Rattle.sqlite.specs.Clock.{timed as at_time}
use Rattle.sqlite.specs.Held.{Held, state}
use Rattle.sqlite.proofs.InsideLemmas.{unchanged_keeps}
use Rattle.sqlite.specs.Term.{Term}
use Rattle.sqlite.specs.Table.{Table}
use Rattle.sqlite_value.specs.declared.keys.Key.{Key}
use Rattle.store_sql.specs.Spelling.{Spelling, spelled, unspelled}
use Rattle.store_sql.specs.Reading.{Test, Listing, Finds}
use Rattle.store_sql.proofs.Where.{are_given}
use Rattle.store_sql.proofs.Resolve.{all_rows}
use Rattle.store_sql.proofs.Select.{IsSelect, IsPlannedSelect, IsAsked, asked_all, listing_of, listing_showing}
use Rattle.store_sql.proofs.Select.{all_listed}
use Rattle.store_sql.specs.Transactions.{Rests, Made, Steps, Looks}
use Rattle.store_sql.proofs.Transactions.{Shuts, Settles, clean_open}

-- whatever is compiled has no RETURNING
abbrev Bare : Result Compiled CompileError → Type 0
Bare (Ok c) = c.returning ≡ None
Bare (Err e) = Unit {0}

bare_then : (p : Parsed) (formats : List (List ℕ)) (r : Checked Command)
    → Bare (and_then {B = Compiled} (and_then {B = List (List ℕ) × (Command × Option Returning)}
    (and_then {B = Command × Option Returning} r (λ c. Ok (c, None))) (λ found. Ok (formats, found)))
    (λ plan. Ok (with_command p plan)))
bare_then p formats (Ok c) = refl
bare_then p formats (Err e) = tt

bare_if_select : (r : Result Compiled CompileError) → Bare r → Bare (if_select r)
bare_if_select (Ok c) bare = at (is_select c.command)
  where
    at : (b : Bool) → Bare (cond b (Ok c) (Err NoSuchTable))
    at true = bare
    at false = tt
bare_if_select (Err e) bare = tt

unchanged_none : (old : State) (e : Error) (new : State) (sql : List ℕ) (params : Row)
    → IsNotRun old new sql params e → KeepsCommit old new × (IsUnchanged old new ⊎ IsRolledBack old new)
unfolding IsNotRun
unchanged_none old e new sql params (inl same) = (unchanged_keeps old new (inl same.1), inl same.1)
unchanged_none old e new sql params (inr failed) = (unchanged_keeps old new (inr failed.3), inr failed.3)

module _ (text : List ℕ) (p : Parsed) (asks : Written) (parsed : first text ≡ Ok p)
    (statement : p.statement ≡ written.Select asks) where
  compiled_bare : (schema : Schema) → Bare (compiled schema text)
  unfolding compiled planned meaning timed returning
  compiled_bare schema = rw (parsed, statement) (bare_then p _ _)

  understood_bare : (schema : Schema) → Bare (understood schema text)
  unfolding understood
  understood_bare schema = at (reads_listing schema text)
    where
      at : (b : Bool) → Bare (cond b (if_select (compiled listing_schema text)) (compiled schema text))
      at true = bare_if_select (compiled listing_schema text) (compiled_bare listing_schema)
      at false = compiled_bare schema

  is_bare : (schema : Schema) (c : Compiled) → understood schema text ≡ Ok c → c.returning ≡ None
  is_bare schema c is = subst Bare is (understood_bare schema)

  pub shown_unchanged : (params : Row) (old new : State) (rows : List Row) → Shown text params old new rows
      → IsUnchanged old new
  unfolding Shown
  shown_unchanged params old new rows h = (subst (λ r. ShowsRows old new text h.0
      (at_time params h.0.formats h.1.now) rows r) (is_bare old.now.schema h.0 h.1.is) h.2).3

  pub failed_unchanged : (params : Row) (old new : State) (e : Error) → FailsToQuery text params old new e
      → IsUnchanged old new ⊎ IsRolledBack old new
  unfolding FailsToQuery
  failed_unchanged params old new e (inl none) = (unchanged_none old e new text params none).1
  failed_unchanged params old new e (inr failed) = inl (subst
      (λ r. FailsToShow old new text failed.0 (at_time params failed.0.formats failed.1.now) e r)
      (is_bare old.now.schema failed.0 failed.1.is) failed.2).3

  pub never_commits : (params : Row) (s : State) (db : Trees) → ¬ CommitsShowing text params s db
  unfolding CommitsShowing
  never_commits params s db h = absurd (let e = rw (is_bare s.now.schema h.0 h.1.is) at h.2 in cc)

  module _ {X : Type 0} (items : X → List Row) (params : Row) (old new : State) (r : Result X Error)
      (Answers : X → Database → Database → Type 0) where
    -- a read inside a transaction, by the clauses of `query_all`
    pub read_steps : ((x : X) → Shown text params old new (items x) → Answers x old.now new.now)
        → (HasCleanDisk new → IfOk r (λ x. Shown text params old new (items x)))
        → (HasCleanDisk new → IfErr r (λ e. FailsToQuery text params old new e
        ⊎ IsTooLate text params old new e))
        → Survives old new (λ _. ⊥) → Steps Answers old new r
    read_steps means ok err survives = record {
      made = λ clean inside. at r (ok clean) (err clean) inside;
      survives = survives;
    }
      where
        at : (r : Result X Error) → IfOk r (λ x. Shown text params old new (items x))
            → IfErr r (λ e. FailsToQuery text params old new e ⊎ IsTooLate text params old new e)
            → IsTrue old.in_transaction → Made Answers old new r
        at (Ok x) shown failed inside = let same = shown_unchanged params old new (items x) shown in
            (same.0.mode ∙ inside, unchanged_keeps old new (inl same), means x shown)
        at (Err e) shown (inl failed) inside = unchanged_keeps old new (failed_unchanged params old new e failed)
        at (Err e) shown (inr late) inside = unchanged_keeps old new (inl late.5)

  module _ {S X : Type 0} (g : Ghosts S) (shuts : Shuts g) (settles : Settles g) (items : X → List Row)
      (params : Row) (old new : Held S) (rests : Rests (state g old)) (r : Result X Error)
      (Answers : X → Database → Database → Type 0) where
    went : IfOk r (λ x. Shown text params (state g old) (state g new) (items x))
        → IfErr r (FailsToQuery text params (state g old) (state g new)) → IsUnchanged (state g old) (state g new)
        ⊎ IsRolledBack (state g old) (state g new)
    went = at r
      where
        at : (r : Result X Error) → IfOk r (λ x. Shown text params (state g old) (state g new) (items x))
            → IfErr r (FailsToQuery text params (state g old) (state g new))
            → IsUnchanged (state g old) (state g new) ⊎ IsRolledBack (state g old) (state g new)
        at (Ok x) shown failed = inl (shown_unchanged params (state g old) (state g new) (items x) shown)
        at (Err e) shown failed = failed_unchanged params (state g old) (state g new) e failed

    both_old : IsUnchanged (state g old) (state g new) ⊎ IsRolledBack (state g old) (state g new)
        → IsTrue (state g new).is_open → ((state g new).now ≡ (state g old).now)
        × ((state g new).committed ≡ (state g old).now)
    both_old (inl same) is_open = (same.0.now_is, same.0.committed_is ∙ sym (rests.settled same.0.was_open))
    both_old (inr undone) is_open = let back = undone.undone is_open in let before =
        sym (rests.settled (undone.was_open is_open)) in (back.0 ∙ before, back.1 ∙ before)

    -- a read of a store at rest, by the clauses of `query_all`
    pub read_looks : ((x : X) → Shown text params (state g old) (state g new) (items x)
        → Answers x (state g old).now (state g new).now)
        → (HasCleanDisk (state g new) → IfOk r (λ x. Shown text params (state g old) (state g new) (items x)))
        → (HasCleanDisk (state g new) → IfErr r (FailsToQuery text params (state g old) (state g new)))
        → (old.in_transaction ≡ false → new.in_transaction ≡ false)
        → Survives (state g old) (state g new) (CommitsShowing text params (state g old))
        → Looks Answers (state g old) (state g new) r
    read_looks means ok err mode survives =
        let both = λ (is_open : IsTrue (state g new).is_open). let clean =
        clean_open g shuts settles new is_open in both_old (went (ok clean) (err clean)) is_open in
        let rests_so : Rests (state g new) = record {
          autocommit = mode rests.autocommit;
          settled = λ is_open. (both is_open).0 ∙ sym (both is_open).1;
        } in
        record {
          rests = rests_so;
          done = λ clean. at r (ok clean);
          was_open = λ is_open. let clean = clean_open g shuts settles new is_open in
              elim (went (ok clean) (err clean)) [
                | inl same ↦ same.0.was_open
                | inr undone
                    ↦ undone.was_open is_open
              ];
          holds = λ is_open. record {
            is_open = is_open;
            rests = rests_so;
            now_is = (both is_open).0;
            left =
                λ trees may. settles new.store trees is_open may
                ∙ ap (λ (d : Database). d.trees) (both is_open).1;
          };
          survives = record {
            clean = survives.clean;
            shield = survives.shield;
            counts = survives.counts;
            limit = survives.limit;
            closes = survives.closes;
            crash = λ clean db may. elim (survives.crash clean db may) [
              | inl before ↦ inl before
              | inr commits ↦ absurd (never_commits params (state g old) db commits)
            ];
          };
        }
      where
        at : (r : Result X Error) → IfOk r (λ x. Shown text params (state g old) (state g new) (items x))
            → IfOk r (λ x. IsTrue (state g new).is_open × Answers x (state g old).now (state g new).now)
        at (Ok x) shown = (
          (shown_unchanged params (state g old) (state g new) (items x) shown).0.is_open,
          means x
              shown,
        )
        at (Err e) shown = tt

-- ---- a SELECT of a known table

module _ {text : List ℕ} {table : ℕ → Table} {test : Test} {project : Spelling → List Term}
    {by : List (Term × Key)} (it : (spelling : Spelling) → IsAsked text (spelled table spelling) test
    (project spelling) by all_rows)
    (params : Row) (given : are_given test params ≡ true) (l : Listing)
    (is : (spelling : Spelling) → listing_showing (project spelling) (spelled table spelling) test by params
    ≡ l) where
  finds : (old new : State) (rows : List Row) → Shown text params old new rows → Finds table l rows old.now new.now
  finds old new rows shown = record {
    same = (shown_unchanged text (it unspelled).parse (it unspelled).asks (it unspelled).parsed
        (it unspelled).statement params old new rows shown).0.now_is;
    listed = λ at spelling has. (all_listed table it params given l is old new rows shown at spelling has).0;
  }

  -- in a transaction
  pub asked_steps : {X : Type 0} (items : X → List Row) (old new : State) (r : Result X Error)
      → (HasCleanDisk new → IfOk r (λ x. Shown text params old new (items x)))
      → (HasCleanDisk new → IfErr r (λ e. FailsToQuery text params old new e
      ⊎ IsTooLate text params old new e)) → Survives old new (λ _. ⊥)
      → Steps (λ x. Finds table l (items x)) old new r
  asked_steps items old new r ok err survives =
      read_steps text (it unspelled).parse (it unspelled).asks (it unspelled).parsed (it unspelled).statement items
      params old new r (λ x. Finds table l (items x)) (λ x shown. finds old new (items x) shown) ok err survives

  -- on a connection at rest
  pub asked_looks : {S X : Type 0} (g : Ghosts S) (shuts : Shuts g) (settles : Settles g) (items : X → List Row)
      (old new : Held S) (rests : Rests (state g old)) (r : Result X Error)
      → (HasCleanDisk (state g new) → IfOk r (λ x. Shown text params (state g old) (state g new) (items x)))
      → (HasCleanDisk (state g new) → IfErr r (FailsToQuery text params (state g old) (state g new)))
      → (old.in_transaction ≡ false → new.in_transaction ≡ false)
      → Survives (state g old) (state g new) (CommitsShowing text params (state g old))
      → Looks (λ x. Finds table l (items x)) (state g old) (state g new) r
  asked_looks g shuts settles items old new rests r ok err mode survives =
      read_looks text (it unspelled).parse (it unspelled).asks (it unspelled).parsed (it unspelled).statement g shuts
      settles items params old new rests r (λ x. Finds table l (items x))
      (λ x shown. finds (state g old) (state g new) (items x) shown) ok err mode survives

-- ---- of all columns

module _ (text : List ℕ) (table : ℕ → Table) (test : Test) (by : List (Term × Key))
    (it : (spelling : Spelling) → IsSelect text (spelled table spelling) test by)
    (plan : (spelling : Spelling) → IsPlannedSelect (spelled table spelling) test by)
    (params : Row) (given : are_given test params ≡ true) (l : Listing)
    (is : (spelling : Spelling) → listing_of (spelled table spelling) test by params ≡ l) where
  pub found_steps : {X : Type 0} (items : X → List Row) (old new : State) (r : Result X Error)
      → (HasCleanDisk new → IfOk r (λ x. Shown text params old new (items x)))
      → (HasCleanDisk new → IfErr r (λ e. FailsToQuery text params old new e
      ⊎ IsTooLate text params old new e)) → Survives old new (λ _. ⊥)
      → Steps (λ x. Finds table l (items x)) old new r
  found_steps items old new r ok err survives = asked_steps (λ spelling. asked_all (it spelling) (plan spelling))
      params given l is items old new r ok err survives

  pub found_looks : {S X : Type 0} (g : Ghosts S) (shuts : Shuts g) (settles : Settles g) (items : X → List Row)
      (old new : Held S) (rests : Rests (state g old)) (r : Result X Error)
      → (HasCleanDisk (state g new) → IfOk r (λ x. Shown text params (state g old) (state g new) (items x)))
      → (HasCleanDisk (state g new) → IfErr r (FailsToQuery text params (state g old) (state g new)))
      → (old.in_transaction ≡ false → new.in_transaction ≡ false)
      → Survives (state g old) (state g new) (CommitsShowing text params (state g old))
      → Looks (λ x. Finds table l (items x)) (state g old) (state g new) r
  found_looks g shuts settles items old new rests r ok err mode survives =
      asked_looks (λ spelling. asked_all (it spelling) (plan spelling)) params given l is g shuts settles items old
      new rests r ok err mode survives
