-- From `SELECT * .. ORDER BY c LIMIT 1` to a row of the least number among those that pass, at rest.
use Rattle.std.proofs.Common.{◌≡◌, inl, inr, ℕ, ℤ, ◌≤ℤ◌, List, [], ◌∷◌, map, Bool, true}
use Rattle.std.proofs.Common.{false, Option, Some, None, Result, Ok, Err, IsTrue, sym, ap, subst, ◌∙◌}
use Rattle.std.specs.Prelude.{filter, IfOk, IfErr, Contains}
use Rattle.std.specs.List.{AllByRecursion}
use Rattle.std.specs.Ordering.{is_gt, int_cmp}
use Rattle.std.proofs.lemmas.List.Sorted.{Contains-permutation}
use Rattle.sqlite_rules.proofs.ListLemmas.{all_has}
use Rattle.sqlite_value.specs.declared.keys.Key.{Key}
use Rattle.sqlite.specs.Order.{Row, column}
use Rattle.sqlite.specs.Query.{key_cmp}
use Rattle.sqlite.specs.Store.{Ghosts}
use Rattle.sqlite.specs.Held.{Held, state}
use Rattle.sqlite.specs.Term.{Term}
use Rattle.sqlite.specs.Tree.{rowid}
use Rattle.sqlite.specs.Effect.{Database}
use Rattle.sqlite.specs.declared.error.Error.{Error}
use Rattle.sqlite.specs.declared.types.Value.{Value}
use Rattle.sqlite.specs.declared.types.Value.TheVariants.{Int}
use Rattle.sqlite.specs.State.{HasCleanDisk, Shown, FailsToQuery, Survives, CommitsShowing}
use Rattle.sheet_types.specs.Ordered.{arranged}
use Rattle.sheet_types.proofs.Order.{All-arranged}
use Rattle.sheet_types.proofs.Every.{All-filter}
use Rattle.store_sql.specs.Reading.{Test, Listing, ShowsFirst, FindsFirst, ascending}
use Rattle.store_sql.specs.Transactions.{Rests}
use Rattle.store_sql.specs.Spelling.{Spelling, spelled, unspelled}
use Rattle.store_sql.proofs.Answering.{read_looks}
use Rattle.store_sql.proofs.Select.{listing_of}
use Rattle.store_sql.proofs.First.{IsFirst, IsPlannedFirst, first_found}
use Rattle.store_sql.proofs.Transactions.{Shuts, Settles}
use Rattle.store_sql.proofs.Where.{are_given}
use Rattle.package_tables.specs.Shape.{Shape, IsStored, stored_rows}
use Rattle.package_tables.specs.Package.{tables_of, AreFormed}
use Rattle.package_tables.specs.Listed.{Listed}
use Rattle.package_tables.specs.Calls.{LooksUp, Answers, IsLeast}
use Rattle.package_tables.specs.declared.fault.Fault.{Fault}
use Rattle.package_tables.proofs.Looking.{IsKnown, AreSaid, HasHead}
use Rattle.package_tables.proofs.Newest.{not_above, has_mapped}
use Rattle.package_tables.proofs.Ranking.{one_number}
use Rattle.package_tables.proofs.Reading.{arranged_permutation}
use Rattle.package_tables.proofs.Shapes.{rows_placed, arranged-filter}

-- the first of some stored rows in ascending order has the least number of their values
module _ {R : Type 0} (shape : Shape R) (number : R → ℤ) (shown : R → Row) (back : Row → R)
    (returns : (x : R) → back (shown x) ≡ x) (listed : Row → Row)
    (shows : (v : Value) (x : R) → listed (shape.stored v x) ≡ shown x)
    (keyed : (v : Value) (x : R) → column (shape.stored v x) 0 ≡ Int (number x)) where
  key_of : (r : Row) → IsStored shape r → column r 0 ≡ Int (number (shape.typed r))
  key_of r stored = ap (λ s. column s 0) (sym stored) ∙ keyed (rowid r) (shape.typed r)

  none_below : (r : Row) → IsStored shape r → (rows : List Row) → AllByRecursion (IsStored shape) rows
      → AllByRecursion (λ x. is_gt (key_cmp 0 (ascending ∷ []) (column r 0 ∷ []) (column x 0 ∷ []))
      ≡ false) rows
      → AllByRecursion (λ x. number (shape.typed r) ≤ℤ number x) (map shape.typed rows)
  none_below r mine [] stored least = tt
  none_below r mine (x ∷ rows) stored least =
      let keys : key_cmp 0 (ascending ∷ []) (column r 0 ∷ []) (column x 0 ∷ [])
      ≡ int_cmp (number (shape.typed r)) (number (shape.typed x)) =
      (λ i. key_cmp 0 (ascending ∷ []) (key_of r mine i ∷ []) (key_of x stored.0 i ∷ []))
      ∙ one_number (number (shape.typed r)) (number (shape.typed x)) in (
        not_above (number (shape.typed r)) (number (shape.typed x)) (ap is_gt (sym keys) ∙ least.0),
        none_below r
            mine rows stored.1 least.1,
      )

  least_in : (xs rows : List Row) → AllByRecursion (IsStored shape) xs → (found : Option R)
      → HasHead shown rows found → ShowsFirst (λ r. column r 0 ∷ []) listed (ascending ∷ []) xs rows
      → IsLeast number (arranged shape.key (map shape.typed xs)) found
  least_in xs rows stored None empty (inl none) = ap (λ k. arranged shape.key (map shape.typed k)) none.0
  least_in xs rows stored None empty (inr one) = absurd (let e = sym one.2 ∙ empty in cc)
  least_in xs rows stored (Some v) head (inl none) = absurd (let e = rw none.1 at head in cc)
  least_in xs rows stored (Some v) head (inr one) =
      let r = one.0 in
      let mine : IsStored shape r = all_has (IsStored shape) xs r stored one.1.there in
      let e = rw one.2 at head in
      let same : listed r ≡ shown v = cc in
      let is : shape.typed r ≡ v = sym (returns (shape.typed r))
      ∙ ap back (sym (shows (rowid r) (shape.typed r)) ∙ ap listed mine ∙ same) ∙ returns v in
      let most = subst (λ x. AllByRecursion (λ y. number x ≤ℤ number y) (map shape.typed xs)) is
      (none_below r mine xs stored one.1.least) in (
        Contains-permutation _ _ v (arranged_permutation shape.key (map shape.typed xs))
            (subst (Contains (map shape.typed xs)) is (has_mapped shape.typed xs r one.1.there)),
        All-arranged shape.key
            (λ y. number v ≤ℤ number y) (map shape.typed xs) most,
      )

-- what the text is with these parameters, and how the rows carry their numbers
pub record IsNext {R : Type 0} (shape : Shape R) (shown : R → Row) (number : R → ℤ) (text : List ℕ)
    (params : Row) (keeps : R → Bool) : Type 0 where
  pub test : Test
  pub by : List (Term × Key)
  pub selects : (spelling : Spelling) → IsFirst text (spelled shape.table spelling) test by
  pub planned : (spelling : Spelling) → IsPlannedFirst (spelled shape.table spelling) test by
  pub given : are_given test params ≡ true
  pub pass : Row → Bool
  pub listed : Row → Row
  pub is : (spelling : Spelling) → listing_of (spelled shape.table spelling) test by params
      ≡ record { keeps = pass; key = λ r. column r 0 ∷ []; shown = listed; by = ascending ∷ [] }
  pub shows : (v : Value) (x : R) → listed (shape.stored v x) ≡ shown x
  pub passing : (v : Value) (x : R) → pass (shape.stored v x) ≡ keeps x
  pub keyed : (v : Value) (x : R) → column (shape.stored v x) 0 ≡ Int (number x)

module _ {R : Type 0} {list : Listed R} {shown : R → Row} (known : IsKnown list shown) {number : R → ℤ}
    {text : List ℕ} {params : Row} {keeps : R → Bool} (next :
    IsNext list.shape shown number text params keeps) where
  abbrev listing : Listing
  listing = record { keeps = next.pass; key = λ r. column r 0 ∷ []; shown = next.listed; by = ascending ∷ [] }

  tested : (rows : List Row) → AllByRecursion (IsStored list.shape) rows
      → AllByRecursion (λ r. next.pass r ≡ keeps (list.shape.typed r)) rows
  tested [] h = tt
  tested (r ∷ rows) h = (ap next.pass (sym h.0) ∙ next.passing (rowid r) (list.shape.typed r), tested rows h.1)

  answered : (db new : Database) → AreFormed db → (rows : List Row)
      → FindsFirst list.shape.table listing rows db new → (found : Option R) → HasHead shown rows found
      → IsLeast number (filter keeps (list.rows (tables_of db))) found
  answered db new formed rows finds found head =
      let f = known.is.formed db formed in
      let p = f.placed in
      let there = stored_rows list.shape db in
      let same : filter next.pass (db.trees (spelled list.shape.table p.spelling).tree) ≡ filter next.pass there =
      ap (filter next.pass) (sym (rows_placed list.shape known.is.laws db p.at p.spelling p.has)) in
      let shows = subst (λ k. ShowsFirst (λ r. column r 0 ∷ []) next.listed (ascending ∷ []) k rows) same
      (finds.first p.at p.spelling p.has) in
      let kept = arranged-filter list.shape.key list.shape.typed keeps next.pass there (tested there f.stored) in
      subst (λ k. IsLeast number k found) (kept ∙ ap (filter keeps) (sym (known.is.lists db)))
      (least_in list.shape number shown known.back known.returns next.listed next.shows next.keyed
      (filter next.pass there) rows (All-filter (IsStored list.shape) next.pass there f.stored) found head shows)

  -- at rest
  module _ {Y : Type 0} (items : Y → List Row) (given : Row) (same : given ≡ params) {S : Type 0} (g : Ghosts S)
      (shuts : Shuts g) (settles : Settles g) (old new : Held S) (rests : Rests (state g old))
      (answer : Result Y Error)
      (ok : HasCleanDisk (state g new) → IfOk answer (λ y. Shown text given (state g old) (state g new) (items y)))
      (err : HasCleanDisk (state g new) → IfErr answer (FailsToQuery text given (state g old) (state g new)))
      (mode : old.in_transaction ≡ false → new.in_transaction ≡ false)
      (survives : Survives (state g old) (state g new) (CommitsShowing text given (state g old))) where
    pub looks_next : (result : Result (Option R) Fault) → AreSaid items (HasHead shown) answer result
        → LooksUp (λ t. IsLeast number (filter keeps (list.rows t))) (state g old) (state g new) result
    looks_next result said =
        let found = read_looks text (next.selects unspelled).parse (next.selects unspelled).asks
        (next.selects unspelled).parsed (next.selects unspelled).statement g shuts settles items params old
        new rests answer (λ y. FindsFirst list.shape.table listing (items y))
        (λ y shown. first_found text list.shape.table next.test next.by next.selects next.planned params next.given
        listing next.is (state g old) (state g new) (items y) shown)
        (subst (λ p. HasCleanDisk (state g new) → IfOk answer
        (λ y. Shown text p (state g old) (state g new) (items y))) same ok)
        (subst (λ p. HasCleanDisk (state g new) → IfErr answer (FailsToQuery text p (state g old) (state g new)))
        same err) mode
        (subst (λ p. Survives (state g old) (state g new) (CommitsShowing text p (state g old))) same survives) in
        record {
          rests = found.rests;
          done = λ clean. at answer result (found.done clean) said;
          was_open = found.was_open;
          holds = found.holds;
          survives = found.survives;
        }
      where
        at : (answer : Result Y Error) (result : Result (Option R) Fault)
            → IfOk answer (λ y. IsTrue (state g new).is_open
            × FindsFirst list.shape.table listing (items y) (state g old).now (state g new).now)
            → AreSaid items (HasHead shown) answer result
            → IfOk result (λ x. IsTrue (state g new).is_open
            × Answers (λ t. IsLeast number (filter keeps (list.rows t))) x (state g old).now (state g new).now)
        at (Ok y) (Ok x) found said = (
          found.0,
          (
            found.1.same,
            λ formed. answered (state g old).now (state g new).now
                formed (items y) found.1 x said,
          ),
        )
        at (Err e) (Ok x) found said = absurd said
        at answer (Err f) found said = tt
