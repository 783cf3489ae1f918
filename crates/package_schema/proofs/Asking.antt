-- From the clauses of `query_all` to what a look at a store shows: of no table, and of the rows of one.
use Rattle.std.proofs.Common.{◌≡◌, Ordering, ℕ, List, [], codes, Bool, true, false, Result, Ok, Err, IsTrue}
use Rattle.std.proofs.Common.{refl}
use Rattle.std.proofs.Common.{subst}
use Rattle.std.specs.Prelude.{IfOk, IfErr, IsPermutation, ⊤}
use Rattle.sqlite.specs.Order.{Row}
use Rattle.sqlite.specs.Store.{Ghosts}
use Rattle.sqlite.specs.Effect.{Database}
use Rattle.sqlite.specs.Held.{Held, state}
use Rattle.sqlite.specs.declared.error.Error.{Error}
use Rattle.sqlite.specs.State.{HasCleanDisk, Survives, Shown, FailsToQuery, CommitsShowing}
use Rattle.sqlite_ast.specs.declared.Select.{Select as Written}
use Rattle.sqlite_ast.specs.declared.Statement.TheVariants as written
use Rattle.sqlite_syntax.specs.declared.statement.Parsed.{Parsed}
use Rattle.sqlite_resolve.specs.Compile.{first}
use Rattle.sqlite_tied.specs.Compute.{everything}
use Rattle.store_sql.specs.Reading.{Finds}
use Rattle.store_sql.specs.Transactions.{Rests, Looks}
use Rattle.store_sql.proofs.Answering.{shown_unchanged, read_looks, found_looks}
use Rattle.store_sql.proofs.Transactions.{Shuts, Settles}
use Rattle.package_tables.specs.Shape.{Shape, IsShape, IsFormed, rows_of}
use Rattle.package_tables.specs.Calls.{AreAll, AreThose}
use Rattle.package_tables.specs.declared.fault.Fault.{Fault}
use Rattle.package_tables.proofs.Looking.{IsLookUp, IsRanked, AreSaid, AreShown, filter_every}
use Rattle.package_tables.proofs.Reading.{those}
use Rattle.package_tables.proofs.Ranking.{in_order}
use Rattle.package_schema.specs.Looking.{Sees}

-- the text is a SELECT
record IsAsked (text : List ℕ) : Type 0 where
  parse : Parsed
  asks : Written
  parsed : first text ≡ Ok parse
  statement : parse.statement ≡ written.Select asks

nothing_asked : IsAsked (codes "SELECT 1")
unfolding everything
nothing_asked = record { parse = _; asks = _; parsed = refl; statement = refl }

module _ {S Y : Type 0} (items : Y → List Row) (given : Row) (same : given ≡ []) (g : Ghosts S) (shuts : Shuts g)
    (settles : Settles g) (old new : Held S) (rests : Rests (state g old)) (r : Result Y Error) where
  -- a look at no table
  pub nothing_looks : (HasCleanDisk (state g new) → IfOk r (λ y. Shown (codes "SELECT 1") given (state g old)
      (state g new) (items y)))
      → (HasCleanDisk (state g new) → IfErr r (FailsToQuery (codes "SELECT 1") given (state g old) (state g new)))
      → (old.in_transaction ≡ false → new.in_transaction ≡ false)
      → Survives (state g old) (state g new) (CommitsShowing (codes "SELECT 1") given (state g old))
      → Looks (Sees (λ _ _. ⊤)) (state g old) (state g new) r
  nothing_looks ok err mode survives =
      let q = nothing_asked in
      read_looks (codes "SELECT 1") q.parse q.asks q.parsed q.statement g shuts settles items given old new rests r
      (Sees (λ _ _. ⊤))
      (λ y shown. (
        (shown_unchanged (codes "SELECT 1") q.parse q.asks q.parsed q.statement given (state g old)
            (state g new) (items y) shown).0.now_is,
        tt,
      )) ok err mode survives

  -- a look at all rows of a table, in any order
  module _ {R : Type 0} (shape : Shape R) (laws : IsShape shape) (shown : R → Row) (back : Row → R)
      (returns : (x : R) → back (shown x) ≡ x) {text : List ℕ} {keeps : R → Bool}
      (read : IsLookUp shape shown text [] keeps) where
    pub those_look : (HasCleanDisk (state g new) → IfOk r (λ y. Shown text given (state g old) (state g new)
        (items y))) → (HasCleanDisk (state g new) → IfErr r (FailsToQuery text given (state g old) (state g new)))
        → (old.in_transaction ≡ false → new.in_transaction ≡ false)
        → Survives (state g old) (state g new) (CommitsShowing text given (state g old))
        → {X : Type 0} (of : X → List R) (result : Result X Fault)
        → AreSaid items (λ rows x. AreShown shown rows (of x)) r result
        → Looks (Sees (λ db x. IsFormed shape db → AreThose keeps (rows_of shape db) (of x))) (state g old)
        (state g new) result
    those_look ok err mode survives {X} of result said =
        let found = found_looks text shape.table read.test read.by read.selects read.planned [] read.given
        read.listing read.is g shuts settles items old new rests r
        (subst (λ p. HasCleanDisk (state g new) → IfOk r (λ y. Shown text p (state g old) (state g new) (items y)))
        same ok)
        (subst (λ p. HasCleanDisk (state g new) → IfErr r (FailsToQuery text p (state g old) (state g new))) same
        err)
        mode
        (subst (λ p. Survives (state g old) (state g new) (CommitsShowing text p (state g old))) same survives) in
        record {
          rests = found.rests;
          done = λ clean. at r result (found.done clean) said;
          was_open = found.was_open;
          holds = found.holds;
          survives = found.survives;
        }
      where
        at : (r : Result Y Error) (result : Result X Fault) → IfOk r
            (λ y. IsTrue (state g new).is_open × Finds shape.table read.listing (items y) (state g old).now
            (state g new).now) → AreSaid items (λ rows x. AreShown shown rows (of x)) r result
            → IfOk result (λ x. IsTrue (state g new).is_open
            × Sees (λ db y. IsFormed shape db → AreThose keeps (rows_of shape db) (of y)) x (state g old).now
            (state g new).now)
        at (Ok y) (Ok x) found said = (
          found.0,
          (
            found.1.same,
            λ formed. those shape laws shown back returns
                read.listing keeps read.shows read.passing (state g old).now formed (items y) found.1.listed (of x)
                said,
          ),
        )
        at (Err e) (Ok x) found said = absurd said
        at r (Err f) found said = tt

  -- a look at all rows of a table, in order
  module _ {R : Type 0} (shape : Shape R) (laws : IsShape shape) (shown : R → Row) (back : Row → R)
      (returns : (x : R) → back (shown x) ≡ x) {text : List ℕ} {keeps : R → Bool}
      (read : IsLookUp shape shown text [] keeps)
      (every : (x : R) → keeps x ≡ true) {cmp : R → R → Ordering} (ranked : IsRanked read cmp) where
    rows_mean : (db : Database) (rows : List Row) → Finds shape.table read.listing rows db db → IsFormed shape db
        → (xs : List R) → AreShown shown rows xs → AreAll cmp (rows_of shape db) xs
    rows_mean db rows found formed xs are = (
      subst (λ k. IsPermutation k xs) (filter_every every (rows_of shape db))
          (those shape laws shown back returns read.listing keeps read.shows read.passing db formed rows found.listed
          xs are),
      in_order shape laws shown back returns read.listing read.shows ranked.keys ranked.keyed cmp ranked.total
          ranked.alike db formed rows found.listed xs are,
    )

    pub rows_look : (HasCleanDisk (state g new) → IfOk r (λ y. Shown text given (state g old) (state g new)
        (items y))) → (HasCleanDisk (state g new) → IfErr r (FailsToQuery text given (state g old) (state g new)))
        → (old.in_transaction ≡ false → new.in_transaction ≡ false)
        → Survives (state g old) (state g new) (CommitsShowing text given (state g old))
        → {X : Type 0} (of : X → List R) (result : Result X Fault)
        → AreSaid items (λ rows x. AreShown shown rows (of x)) r result
        → Looks (Sees (λ db x. IsFormed shape db → AreAll cmp (rows_of shape db) (of x))) (state g old)
        (state g new)
        result
    rows_look ok err mode survives {X} of result said =
        let found = found_looks text shape.table read.test read.by read.selects read.planned [] read.given
        read.listing read.is g shuts settles items old new rests r
        (subst (λ p. HasCleanDisk (state g new) → IfOk r (λ y. Shown text p (state g old) (state g new) (items y)))
        same ok)
        (subst (λ p. HasCleanDisk (state g new) → IfErr r (FailsToQuery text p (state g old) (state g new))) same
        err)
        mode
        (subst (λ p. Survives (state g old) (state g new) (CommitsShowing text p (state g old))) same survives) in
        record {
          rests = found.rests;
          done = λ clean. at r result (found.done clean) said;
          was_open = found.was_open;
          holds = found.holds;
          survives = found.survives;
        }
      where
        at : (r : Result Y Error) (result : Result X Fault) → IfOk r
            (λ y. IsTrue (state g new).is_open × Finds shape.table read.listing (items y) (state g old).now
            (state g new).now) → AreSaid items (λ rows x. AreShown shown rows (of x)) r result
            → IfOk result (λ x. IsTrue (state g new).is_open
            × Sees (λ db y. IsFormed shape db → AreAll cmp (rows_of shape db) (of y)) x (state g old).now
            (state g new).now)
        at (Ok y) (Ok x) found said = (
          found.0,
          (
            found.1.same,
            λ formed. rows_mean (state g old).now (items y)
                (record { same = refl; listed = found.1.listed }) formed (of x) said,
          ),
        )
        at (Err e) (Ok x) found said = absurd said
        at r (Err f) found said = tt
