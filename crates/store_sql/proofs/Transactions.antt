-- How a transaction goes on and ends, over any store.
use Rattle.std.proofs.Common.{◌≡◌, ◌⊎◌, inl, inr, ℕ, ◌∷◌, [], ◌++◌, true, false, List, Result}
use Rattle.std.proofs.Common.{Ok, Err, IsErr, IsTrue, refl, sym, ap, subst, ◌∙◌, ◌≤◌, arith}
use Rattle.std.proofs.lemmas.Bool.{both_ways}
use Rattle.sqlite_trees.specs.View.{doubt}
use Rattle.sqlite.specs.Tree.{Trees}
use Rattle.sqlite.specs.Store.{Ghosts}
use Rattle.sqlite.specs.declared.error.Error.{Error}
use Rattle.sqlite.specs.Effect.{Database}
use Rattle.sqlite.specs.State.{State, HasCleanDisk, KeepsCommit, Survives, IsRolledBack, Shows, ExecutesInside}
use Rattle.sqlite.specs.State.{FailsToQuery, IsTooLate}
use Rattle.sqlite.specs.Order.{Row}
use Rattle.std.specs.Prelude.{IfErr}
use Rattle.sqlite.specs.Steps.{FailsToCommit}
use Rattle.sqlite.specs.Held.{Held, state}
use Rattle.sqlite.proofs.StateLemmas.{survives_then, clean_if_open}
use Rattle.sqlite.proofs.InsideLemmas.{unchanged_keeps, keeps_then}
use Rattle.sqlite.proofs.Callers.{survives_begin}
use Rattle.store_sql.specs.Writing.{WritesInside, Chained, EachChained}
use Rattle.store_sql.specs.Transactions.{Rests, Holds, Inside, Made, Steps, EachStep, WouldLeave, Turns, IsExcused}
use Rattle.store_sql.specs.Transactions.{IsUnanswered}

-- what `transaction` makes of a connection
abbrev pub begun : {S : Type 0} → Held S → Held S
begun h = record h { in_transaction = true }

-- two laws of each store: `g.met.S.Store.shut_if_dirty` and `g.met.S.Store.settled`
abbrev pub Shuts : {S : Type 0} → Ghosts S → Type 0
Shuts {S} g = (s : S) → (g.view s).is_clean ≡ false → (g.view s).is_open ≡ false

abbrev pub Settles : {S : Type 0} → Ghosts S → Type 0
Settles {S} g = (s : S) (db : Trees) → IsTrue (g.view s).is_open → g.recovers s db → db ≡ (g.view s).committed

-- ---- inside a transaction

same_keeps : (s : State) → KeepsCommit s s
same_keeps s = record { was_open = λ h. h; committed = λ _. refl }

pub same_survives : (s : State) → Survives s s (λ _. ⊥)
same_survives s = record {
  clean = omega arith;
  shield = λ h. h;
  counts = omega arith;
  limit = refl;
  closes = λ _ h. inl h;
  crash = λ _ db h. inl h;
}

pub none_left : (a b c : State) → Survives a b (λ _. ⊥) → Survives b c (λ _. ⊥) → Survives a c (λ _. ⊥)
none_left a b c one two = survives_then a b c _ _ (λ _. ⊥) (λ _ _ none. none) (λ _ _ none. none) one two

keeps_of : {X E : Type 0} (Changes : X → Database → Database → Type 0) (old new : State) (r : Result X E)
    → Made Changes old new r → KeepsCommit old new
keeps_of Changes old new (Ok x) made = made.1
keeps_of Changes old new (Err e) made = made

pub steps_inside : {X E : Type 0} (Changes : X → Database → Database → Type 0) (old new : State)
    (r : Result X E) → Steps Changes old new r → IsTrue old.in_transaction → Inside old new
steps_inside Changes old new r h inside = record {
  kept = λ clean. keeps_of Changes old new r (h.made clean inside);
  survives = h.survives;
}

-- a call that writes, by its clauses
pub write_steps : {X : Type 0} (Changes : Database → Database → Type 0) (old new : State) (r : Result X Error)
    → (HasCleanDisk new → IsTrue old.in_transaction → WritesInside Changes old new r)
    → Survives old new (λ _. ⊥)
    → Steps (λ _. Changes) old new r
write_steps {X} Changes old new r wrote survives = record {
  made = λ clean inside. at r (wrote clean inside);
  survives = survives;
}
  where
    at : (r : Result X Error) → WritesInside Changes old new r → Made (λ _. Changes) old new r
    at (Ok x) it = (it.0.mode, record { was_open = λ _. it.0.was_open; committed = λ _. it.0.committed_is }, it.1)
    at (Err e) it = unchanged_keeps old new it

-- and why it failed
pub excused_by : (sql : List ℕ) (params : Row) (old new : State) (r : Result ℕ Error)
    → (HasCleanDisk new → IsTrue old.in_transaction → ExecutesInside 0 sql params old new r)
    → IfErr r (IsExcused sql params old new)
excused_by sql params old new (Ok count) runs = tt
excused_by sql params old new (Err e) runs = runs

pub unanswered_by : {X : Type 0} (sql : List ℕ) (params : Row) (old new : State) (r : Result X Error)
    → (HasCleanDisk new → IfErr r (λ e. FailsToQuery sql params old new e ⊎ IsTooLate sql params old new e))
    → IfErr r (IsUnanswered sql params old new)
unanswered_by sql params old new (Ok x) why = tt
unanswered_by sql params old new (Err e) why = why

-- nothing was done
pub steps_none : {X E : Type 0} (Changes : X → Database → Database → Type 0) (s : State) (x : X)
    → Changes x s.now s.now → Steps {E = E} Changes s s (Ok x)
steps_none Changes s x same = record {
  made = λ clean inside. (inside, same_keeps s, same);
  survives = same_survives s;
}

failed_keeps : {X E : Type 0} (Changes : X → Database → Database → Type 0) (old new : State) (r : Result X E)
    → IsErr r → KeepsCommit old new → Made Changes old new r
failed_keeps Changes old new (Ok x) failed kept = absurd (let e = failed in cc)
failed_keeps Changes old new (Err e) failed kept = kept

-- A call that failed, or whose answer is refused, ends the steps. What it wrote is undone where the transaction is
-- dropped.
pub steps_failed : {X Y E F : Type 0} {First : X → Database → Database → Type 0}
    {Changes : Y → Database → Database → Type 0} {old new : State} {q : Result X E} (r : Result Y F) → IsErr r
    → Steps First old new q → Steps Changes old new r
steps_failed {X} {Y} {E} {F} {First} {Changes} {old} {new} {q} r failed h = record {
  made = λ clean inside. failed_keeps Changes old new r failed (keeps_of First old new q (h.made clean inside));
  survives = h.survives;
}

-- the change as a caller says it
pub steps_weaker : {X E : Type 0} {P : X → Database → Database → Type 0}
    (Q : X → Database → Database → Type 0) {old new : State} {r : Result X E}
    → ((x : X) → P x old.now new.now → Q x old.now new.now) → Steps P old new r → Steps Q old new r
steps_weaker {X} {E} {P} Q {old} {new} {r} f h = record {
  made = λ clean inside. at r (h.made clean inside);
  survives = h.survives;
}
  where
    at : (r : Result X E) → Made P old new r → Made Q old new r
    at (Ok x) it = (it.0, it.1, f x it.2)
    at (Err e) it = it

-- one call after the other, whether the second succeeds or fails
pub steps_then : {X Y E F : Type 0} {First : X → Database → Database → Type 0}
    {Next : Y → Database → Database → Type 0} {old mid new : State} {x : X} {r : Result Y F}
    → Steps {E = E} First old mid (Ok x) → Steps Next mid new r
    → Steps (λ y. Chained (First x) (Next y)) old new r
steps_then {X} {Y} {E} {F} {First} {Next} {old} {mid} {new} {x} {r} one two = record {
  made = λ clean inside. let first = one.made (omega (arith, two.survives.clean)) inside in at r first
      (two.made clean first.0);
  survives = none_left old mid new one.survives two.survives;
}
  where
    at : (r : Result Y F) → (mid.in_transaction ≡ true) × KeepsCommit old mid × First x old.now mid.now
        → Made Next mid new r → Made (λ y. Chained (First x) (Next y)) old new r
    at (Ok y) first it = (it.0, keeps_then old mid new first.1 it.1, (mid.now, first.2, it.2))
    at (Err e) first it = keeps_then old mid new first.1 it

-- the answer of the last call is handed on in another form
pub steps_answer : {X Y E F : Type 0} {First : X → Database → Database → Type 0}
    (Changes : Y → Database → Database → Type 0) {old new : State} {x : X} (y : Y)
    → (First x old.now new.now → Changes y old.now new.now) → Steps {E = E} First old new (Ok x)
    → Steps {E = F} Changes old new (Ok y)
steps_answer Changes y f h = record {
  made = λ clean inside. let it =
      h.made clean inside in (it.0, it.1, f it.2);
  survives = h.survives;
}

-- ---- a loop that makes one change for each item, at its start and after an iteration

-- the change of one more item
each_then : {X : Type 0} (Change : X → Database → Database → Type 0) (xs : List X) (x : X)
    (old mid new : Database) → EachChained Change xs old mid → Change x mid new
    → EachChained Change (xs ++ x ∷ []) old new
each_then Change [] x old mid new same last = (new, subst (λ (d : Database). Change x d new) same last, refl)
each_then Change (y ∷ xs) x old mid new h last = (h.0, h.1, each_then Change xs x h.0 mid new h.2 last)

pub each_begins : {X : Type 0} (Change : X → Database → Database → Type 0) (s : State) → EachStep Change [] s s
each_begins Change s = steps_none {X = Unit {0}} {E = Error} (λ _. EachChained Change []) s tt refl

pub each_goes_on : {X Y F : Type 0} (Change : X → Database → Database → Type 0) (xs : List X) (x : X)
    {old mid new : State} {y : Y} → EachStep Change xs old mid → Steps {E = F} (λ _. Change x) mid new (Ok y)
    → EachStep Change (xs ++ x ∷ []) old new
each_goes_on {X} {Y} {F} Change xs x {old} {mid} {new} {y} one two =
    let both = steps_then {Y = Y} {F = F} one two in
    steps_answer {X = Y} {Y = Unit {0}} {E = F} {F = Error} (λ _. EachChained Change (xs ++ x ∷ [])) tt
    (λ it. each_then Change xs x old.now it.0 new.now it.1 it.2) both

-- ---- how it ends

module _ {S : Type 0} (g : Ghosts S) (shuts : Shuts g) (settles : Settles g) where
  pub clean_open : (h : Held S) → IsTrue (state g h).is_open → HasCleanDisk (state g h)
  clean_open h is_open = clean_if_open (g.view h.store) (shuts h.store) is_open

  -- a store at rest holds what it shows
  pub at_rest : (h : Held S) → Rests (state g h) → IsTrue (state g h).is_open → Holds (state g h) (state g h).now
  at_rest h rests is_open = record {
    is_open = is_open;
    rests = rests;
    now_is = refl;
    left = λ trees may. settles h.store trees is_open may ∙ ap (λ (d : Database). d.trees)
        (sym (rests.settled is_open));
  }

  -- what was rolled back, or never begun
  module _ (old last new : Held S) (rests : Rests (state g old))
      (inside : Inside (state g (begun old)) (state g last)) where
    back : IsRolledBack (state g last) (state g new) → doubt (state g last).is_clean ≤ doubt
        (state g new).is_clean → IsTrue (state g new).is_open
        → ((state g new).now ≡ (state g old).now) × ((state g new).committed ≡ (state g old).now)
    back undone falls is_open =
        let clean : HasCleanDisk (state g new) = clean_open new is_open in
        let was = undone.was_open is_open in
        let kept = inside.kept (omega (arith, falls, clean)) in
        let first : (state g last).committed ≡ (state g old).now =
        kept.committed was ∙ sym (rests.settled (kept.was_open was)) in
        ((undone.undone is_open).0 ∙ first, (undone.undone is_open).1 ∙ first)

    held : new.in_transaction ≡ false → IsTrue (state g new).is_open → ((state g new).now ≡ (state g old).now)
        × ((state g new).committed ≡ (state g old).now) → Holds (state g new) (state g old).now
    held ended is_open it = record {
      is_open = is_open;
      rests = record { autocommit = ended; settled = λ _. it.0 ∙ sym it.1 };
      now_is = it.0;
      left = λ trees may. settles new.store trees is_open may ∙ ap (λ (d : Database). d.trees) it.1;
    }

    -- a drop
    pub rolled_back : (HasCleanDisk (state g new) → IsRolledBack (state g last) (state g new))
        → Survives (state g last) (state g new) (λ _. ⊥) → new.in_transaction ≡ false
        → Rests (state g new) × (IsTrue (state g new).is_open → Holds (state g new) (state g old).now)
        × Survives (state g old) (state g new) (λ _. ⊥)
    rolled_back undone s ended = (
      record {
        autocommit = ended;
        settled = λ is_open. let it =
            back (undone (clean_open new is_open)) s.clean is_open in it.0 ∙ sym it.1;
      },
      λ is_open. held ended is_open (back (undone (clean_open new is_open)) s.clean is_open),
      survives_begin g old (state g new) _ (none_left (state g (begun old)) (state g last) (state g new)
          inside.survives s),
    )

    module _ (ended : new.in_transaction ≡ false) (stays : HasCleanDisk (state g last) → IsTrue last.in_transaction)
        (s : Survives (state g last) (state g new) (λ db. db ≡ (state g last).now.trees)) where
      fails : (e : Error) → FailsToCommit (state g last) (state g new) e → HasCleanDisk (state g new)
          → IsRolledBack (state g last) (state g new)
      fails e (inl failed) clean = failed.3
      fails e (inr late) clean = absurd (both_ways _ late.1 (stays (omega (arith, s.clean))))

      pub commit_failed : (e : Error) → (HasCleanDisk (state g new)
          → FailsToCommit (state g last) (state g new) e) → Rests (state g new)
          × (IsTrue (state g new).is_open → Holds (state g new) (state g old).now)
      commit_failed e why =
          let undone = λ (is_open : IsTrue (state g new).is_open). let clean =
          clean_open new is_open in back (fails e (why clean) clean) s.clean is_open in (
            record { autocommit = ended; settled = λ is_open. (undone is_open).0 ∙ sym (undone is_open).1 },
            λ is_open. held ended is_open (undone is_open),
          )

      pub committed : (HasCleanDisk (state g new) → Shows (state g last) (state g new) (state g last).now
          (state g last).now false)
          → Rests (state g new) × (HasCleanDisk (state g new) → Holds (state g new) (state g last).now)
      committed shows =
          let rests_so : Rests (state g new) = record {
            autocommit = ended;
            settled = λ is_open. let it =
                shows (clean_open new is_open) in it.now_is ∙ sym it.committed_is;
          } in (
            rests_so,
            λ clean. let it = shows clean in record {
              is_open = it.is_open;
              rests = rests_so;
              now_is = it.now_is;
              left = λ trees may. settles new.store trees it.is_open may
                  ∙ ap (λ (d : Database). d.trees) it.committed_is;
            },
          )

      pub commit_survives : (P : Trees → Type 0) → (HasCleanDisk (state g last) → P (state g last).now.trees)
          → Survives (state g old) (state g new) P
      commit_survives P made = survives_begin g old (state g new) P
          (survives_then (state g (begun old)) (state g last) (state g new) _ _ P (λ _ _ none. absurd none)
          (λ clean db is. subst P (sym is) (made (omega (arith, s.clean)))) inside.survives s)

  -- what a crash leaves of a store that was at rest
  leaves : (old : Held S) (new : State) (P : Trees → Type 0) → Rests (state g old)
      → Survives (state g old) new P → HasCleanDisk new → IsTrue (state g old).is_open → (trees : Trees)
      → new.may_leave trees → (trees ≡ (state g old).now.trees) ⊎ P trees
  leaves old new P rests s clean is_open trees may = elim (s.crash clean trees may) [
    | inl before ↦ inl ((at_rest old rests is_open).left trees before)
    | inr after ↦ inr after
  ]

  none_would : (a b : State) (P : Trees → Type 0) → Survives a b (λ _. ⊥) → Survives a b P
  none_would a b P s = record {
    clean = s.clean;
    shield = s.shield;
    counts = s.counts;
    limit = s.limit;
    closes = s.closes;
    crash = λ clean db may. elim (s.crash clean db may)
        [ inl before ↦ inl before | inr none ↦ absurd none ];
  }

  -- ---- the three exits of `let mut tx = conn.transaction(); let x = steps(&mut tx)?; tx.commit()?; Ok(x)`
  -- `start` is the connection as it is lent to the transaction, `last` as the steps leave it, `end` as the drop or
  -- the commit leaves it, and `new` as the lender ends.

  module _ {X : Type 0} {Changes : X → Database → Database → Type 0} {old start end new : Held S}
      (last : Held S) (begins : start ≡ begun old) (same : end ≡ new) (rests : Rests (state g old)) where
    first_inside : {E : Type 0} (r : Result X E) → Steps Changes (state g start) (state g last) r
        → Inside (state g (begun old)) (state g last)
    first_inside r steps = subst (λ (h : Held S). Inside (state g h) (state g last)) begins
        (steps_inside Changes (state g start) (state g last) r steps (ap (λ (h : Held S). h.in_transaction) begins))

    turned : {F : Type 0} (r : Result X F) → IsErr r → Survives (state g old) (state g end)
        (WouldLeave Changes (state g old).now) → Rests (state g end)
        → (IsTrue (state g end).is_open → Holds (state g end) (state g old).now)
        → Turns Changes (state g old) (state g new) r
    turned (Ok x) failed so at_end undone = absurd (let e = failed in cc)
    turned (Err f) failed so at_end undone = subst (λ (h : Held S). Turns Changes (state g old) (state g h) (Err f))
        same (record {
          rests = at_end;
          done = λ clean. tt;
          undone = undone;
          left = leaves old (state g end) _ rests so;
          survives = so;
        })

    -- the steps failed, and `tx` was dropped
    pub turn_dropped : {E F : Type 0} {q : Result X E} (r : Result X F) → IsErr r
        → Steps Changes (state g start) (state g last) q → (HasCleanDisk (state g end)
        → IsRolledBack (state g last) (state g end)) → Survives (state g last) (state g end) (λ _. ⊥)
        → end.in_transaction ≡ false → Turns Changes (state g old) (state g new) r
    turn_dropped {E} {F} {q} r failed steps undone survives ended =
        let it = rolled_back old last end rests (first_inside q steps) undone survives ended in
        turned r failed (none_would (state g old) (state g end) (WouldLeave Changes (state g old).now) it.2) it.0 it.1

    module _ {E : Type 0} {x : X} (steps : Steps {E = E} Changes (state g start) (state g last) (Ok x))
        (ended : end.in_transaction ≡ false) (survives : Survives (state g last) (state g end)
        (λ db. db ≡ (state g last).now.trees)) where
      made_by : HasCleanDisk (state g last) → (IsTrue last.in_transaction)
          × Changes x (state g old).now (state g last).now
      made_by clean =
          let it = steps.made clean (ap (λ (h : Held S). h.in_transaction) begins) in
          (it.0, subst (λ (h : Held S). Changes x (state g h).now (state g last).now) begins it.2)

      so : Survives (state g old) (state g end) (WouldLeave Changes (state g old).now)
      so = commit_survives old last end rests (first_inside (Ok x) steps) ended (λ clean. (made_by clean).0) survives
          (WouldLeave Changes (state g old).now) (λ clean. (x, (state g last).now, (made_by clean).1, refl))

      -- the commit failed
      pub turn_uncommitted : {F : Type 0} {e : Error} (r : Result X F) → IsErr r
          → (HasCleanDisk (state g end) → FailsToCommit (state g last) (state g end) e)
          → Turns Changes (state g old) (state g new) r
      turn_uncommitted {F} {e} r failed why =
          let it = commit_failed old last end rests (first_inside (Ok x) steps) ended (λ clean. (made_by clean).0)
          survives e why in
          turned r failed so it.0 it.1

      -- all went well
      pub turn_committed : {F : Type 0} → (HasCleanDisk (state g end)
          → Shows (state g last) (state g end) (state g last).now (state g last).now false)
          → Turns {E = F} Changes (state g old) (state g new) (Ok x)
      turn_committed {F} shows =
          let it = committed old last end rests (first_inside (Ok x) steps) ended (λ clean. (made_by clean).0)
          survives shows in
          let done : HasCleanDisk (state g end) → Changes x (state g old).now (state g end).now
          × Holds (state g end) (state g end).now = λ clean.
          let holds = it.1 clean in (
            subst (Changes x (state g old).now) (sym holds.now_is) (made_by (omega (arith, survives.clean, clean))).1,
            subst (Holds (state g end)) (sym holds.now_is) holds,
          ) in
          subst (λ (h : Held S). Turns {E = F} Changes (state g old) (state g h) (Ok x)) same
          (record {
            rests = it.0;
            done = done;
            undone = tt;
            left = leaves old (state g end) _ rests so;
            survives = so;
          })
