-- A crash over a list of stores, where one took a turn.
use Rattle.std.proofs.Common.{◌≡◌, ◌⊎◌, inl, inr, ℕ, zero, suc, List, [], ◌∷◌, slice_get, Some}
use Rattle.std.proofs.Common.{◌<◌, length, subst}
use Rattle.std.specs.Prelude.{slice_set, All}
use Rattle.std.proofs.lemmas.List.{get_or-set_same, length-set}
use Rattle.std.specs.List.{AllZip}
use Rattle.sqlite.specs.Tree.{Trees}
use Rattle.sqlite.specs.Store.{Ghosts}
use Rattle.sqlite.specs.Held.{Held, state}
use Rattle.store_sql.specs.Stores.{MayLeave, EachLeaves}

pub at_set : {X : Type 0} (P : X → Type 0) (xs : List X) (i : ℕ) (x : X) → i < length xs
    → All P (slice_set xs i x) → P x
at_set P xs i x within all = subst P (get_or-set_same xs i x x within) (all i x (rw (length-set xs i x) within))

module _ {S M : Type 0} (g : Ghosts S) (conn : M → Held S) where
  module _ {P : Type 0} (Reads : Trees → P → Type 0) where
    pub same_world : (members : List M) (world : List P) (dbs : List Trees) → EachLeaves g conn Reads members world
        → MayLeave g conn members dbs → AllZip Reads dbs world
    same_world [] [] [] each may = tt
    same_world [] [] (db ∷ dbs) each may = absurd may
    same_world [] (p ∷ world) dbs each may = absurd each
    same_world (m ∷ members) [] dbs each may = absurd each
    same_world (m ∷ members) (p ∷ world) [] each may = absurd may
    same_world (m ∷ members) (p ∷ world) (db ∷ dbs) each may =
        (each.0 db may.0, same_world members world dbs each.1 may.1)

    -- one store turned, and a crash leaves of it what it left before, or what reads as its new part
    pub one_turned : (members : List M) (at : ℕ) (was last : M) (world : List P) (p : P) (dbs : List Trees)
        → slice_get members at ≡ Some was → EachLeaves g conn Reads members world
        → ((db : Trees) → (state g (conn last)).may_leave db → (state g (conn was)).may_leave db ⊎ Reads db p)
        → MayLeave g conn (slice_set members at last) dbs → AllZip Reads dbs world
        ⊎ AllZip Reads dbs (slice_set world at p)
    one_turned [] at was last world p dbs place each turn may = absurd (let e = place in cc)
    one_turned (m ∷ members) at was last [] p dbs place each turn may = absurd each
    one_turned (m ∷ members) zero was last (q ∷ world) p [] place each turn may = absurd may
    one_turned (m ∷ members) (suc at) was last (q ∷ world) p [] place each turn may = absurd may
    one_turned (m ∷ members) zero was last (q ∷ world) p (db ∷ dbs) place each turn may =
        let rest = same_world members world dbs each.1 may.1 in
        let same : m ≡ was = cc in
        elim (turn db may.0) [
          | inl before ↦ inl (each.0 db (rw same before), rest)
          | inr after ↦ inr (after, rest)
        ]
    one_turned (m ∷ members) (suc at) was last (q ∷ world) p (db ∷ dbs) place each turn may =
        elim (one_turned members at was last world p dbs place each.1 turn may.1) [
          | inl before ↦ inl (each.0 db may.0, before)
          | inr after ↦ inr (each.0 db may.0, after)
        ]
