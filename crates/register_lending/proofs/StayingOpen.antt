-- Only what was open is open after a transaction, at each of its three exits, and one that ended before its commit
-- leaves a crash nothing new.
use Rattle.std.proofs.Common.{◌≡◌, false, inl, inr, Result, IsTrue, sym, ap, subst, arith}
use Rattle.sqlite.specs.Store.{Ghosts}
use Rattle.sqlite.specs.Effect.{Database}
use Rattle.sqlite.specs.Held.{Held, state}
use Rattle.sqlite.specs.State.{HasCleanDisk, Survives, IsRolledBack, Shows}
use Rattle.sqlite.specs.Steps.{FailsToCommit}
use Rattle.sqlite.specs.Tree.{Trees}
use Rattle.sqlite.specs.declared.error.Error.{Error}
use Rattle.store_sql.specs.Transactions.{Rests, Steps, Inside}
use Rattle.store_sql.proofs.Transactions.{Shuts, Settles, begun, clean_open, steps_inside, rolled_back}

module _ {S : Type 0} (g : Ghosts S) (shuts : Shuts g) (settles : Settles g) {X : Type 0}
    {Changes : X → Database → Database → Type 0} (old : Held S) {start end new : Held S} (last : Held S)
    (begins : start ≡ begun old) (same : end ≡ new)
    {E : Type 0} {q : Result X E} (steps : Steps Changes (state g start) (state g last) q) (C : Trees → Type 0)
    (survives : Survives (state g last) (state g end) C) where
  -- what was open after the steps was open before
  inside_open : HasCleanDisk (state g end) → IsTrue (state g last).is_open → IsTrue (state g old).is_open
  inside_open clean is_open =
      let inside = subst (λ (h : Held S). Inside (state g h) (state g last)) begins
      (steps_inside Changes (state g start) (state g last) q steps
      (ap (λ (h : Held S). h.in_transaction) begins)) in
      (inside.kept (omega (arith, survives.clean, clean))).was_open is_open

  -- and what is open at the end was open after them
  ended_open : (HasCleanDisk (state g end) → IsTrue (state g end).is_open → IsTrue (state g last).is_open)
      → IsTrue (state g new).is_open → IsTrue (state g old).is_open
  ended_open back is_open =
      let at_end : IsTrue (state g end).is_open = subst (λ (h : Held S). IsTrue (state g h).is_open) (sym same)
      is_open in
      let clean : HasCleanDisk (state g end) = clean_open g shuts settles end at_end in
      inside_open clean (back clean at_end)

  pub open_if_dropped : (HasCleanDisk (state g end) → IsRolledBack (state g last) (state g end))
      → IsTrue (state g new).is_open → IsTrue (state g old).is_open
  open_if_dropped undone = ended_open (λ clean. (undone clean).was_open)

  pub open_if_uncommitted : {e : Error} → (HasCleanDisk (state g end)
      → FailsToCommit (state g last) (state g end) e)
      → IsTrue (state g new).is_open → IsTrue (state g old).is_open
  open_if_uncommitted {e} why = ended_open (λ clean is_open. elim (why clean)
      [ inl failed ↦ failed.3.was_open is_open | inr late ↦ late.2.0.was_open ])

  pub open_if_committed : (HasCleanDisk (state g end) → Shows (state g last) (state g end) (state g last).now
      (state g last).now false) → IsTrue (state g new).is_open → IsTrue (state g old).is_open
  open_if_committed shows = ended_open (λ clean is_open. (shows clean).was_open)

-- A crash after a transaction that ended before its commit leaves what it left before.
pub survives_undone : {S : Type 0} (g : Ghosts S) (shuts : Shuts g) (settles : Settles g) {X E : Type 0}
    {Changes : X → Database → Database → Type 0} (old : Held S) {start end new : Held S} (last : Held S)
    → start ≡ begun old → end ≡ new → Rests (state g old)
    → {q : Result X E} → Steps Changes (state g start) (state g last) q
    → (HasCleanDisk (state g end) → IsRolledBack (state g last) (state g end))
    → Survives (state g last) (state g end) (λ _. ⊥) → end.in_transaction ≡ false
    → Survives (state g old) (state g new) (λ _. ⊥)
survives_undone {S} g shuts settles {X} {E} {Changes} old {start} {end} {new} last begins same rests {q} steps undone
    survives ended =
    let inside = subst (λ (h : Held S). Inside (state g h) (state g last)) begins
    (steps_inside Changes (state g start) (state g last) q steps
    (ap (λ (h : Held S). h.in_transaction) begins)) in
    subst (λ (h : Held S). Survives (state g old) (state g h) (λ _. ⊥)) same
    (rolled_back g shuts settles old last end rests inside undone survives ended).2
