-- What becomes of one store that was looked at, and may have been brought.
use Rattle.std.specs.Prelude.{IfOk, OnErr}
use Rattle.std.proofs.Common.{◌≡◌, ◌⊎◌, inl, inr, Result, Ok, Err, IsTrue, refl, sym, ap, subst}
use Rattle.std.proofs.Common.{◌∙◌, arith}
use Rattle.sqlite.specs.Effect.{Database, IsDatabase}
use Rattle.sqlite.specs.Held.{Held, state}
use Rattle.sqlite.specs.State.{State, HasCleanDisk}
use Rattle.sqlite.specs.Store.{Ghosts}
use Rattle.sqlite.specs.Tree.{Trees}
use Rattle.sheet_types.specs.World.{Package}
use Rattle.sheet_types.specs.declared.frame.Frame.{Frame}
use Rattle.store_sql.specs.Transactions.{Rests, Holds, Turns, WouldLeave}
use Rattle.store_sql.proofs.Transactions.{Shuts, Settles, at_rest, clean_open}
use Rattle.identity_register.specs.Reads.{Reads}
use Rattle.package_v1.specs.FirstVersion.{ReadsAtOne, ReadsAtEither}
use Rattle.opening_stores.specs.Brought.{BringsOnly, LeavesAtEither, LeavesOldOrBrought, MayBeBrought, IsTurned}
use Rattle.opening_stores.specs.Brought.{MayBeTurned}
use Rattle.opening_stores.specs.Stores.{StaysStore}
use Rattle.opening_stores.proofs.Migrated.{Only}

-- a store holds what it shows
shown : (s : State) (db : Database) → Holds s db → Holds s s.now
shown s db h = subst (Holds s) (sym h.now_is) h

-- trees that are as before, or would be left by the migration, read as the package at one version or at the other
left_so : (db : Database) → IsDatabase db → (f : Frame) (p : Package) → ReadsAtOne f p db → (trees : Trees)
    → (trees ≡ db.trees) ⊎ WouldLeave Only db trees → ReadsAtEither f p trees
left_so db sound f p reads trees (inl same) = subst (ReadsAtEither f p) (sym same) (db.schema, sound, reads)
left_so db sound f p reads trees (inr (x, new, brings, same)) =
    let it : Reads f p new × (IsDatabase db → IsDatabase new) × (Reads f p db → new ≡ db) = brings.either f p reads in
    subst (ReadsAtEither f p) (sym same) (new.schema, it.1 sound, inr it.0)

left_each : (db : Database) (s : State) → IsDatabase db → LeavesOldOrBrought db s → LeavesAtEither db s
left_each db s sound leaves f p reads trees may = left_so db sound f p reads trees (leaves trees may)

module _ {S : Type 0} (g : Ghosts S) (shuts : Shuts g) (settles : Settles g) where
  stays_leaves : (a b : Held S) → Rests (state g a) → StaysStore g a b → HasCleanDisk (state g b)
      → IsTrue (state g a).is_open → LeavesOldOrBrought (state g a).now (state g b)
  stays_leaves a b rests stays clean is_open trees may = elim (stays.survives.crash clean trees may) [
    | inl before ↦ inl ((at_rest g shuts settles a rests is_open).left trees before)
    | inr none ↦ absurd none
  ]

  -- one that was only read
  pub stays_may : (a b : Held S) → Rests (state g a) → StaysStore g a b → MayBeBrought (state g a) (state g b)
  stays_may a b rests stays = record {
    rests = stays.rests;
    clean = λ clean. omega (arith, stays.survives.clean, clean);
    was_open = stays.was_open;
    holds = λ is_open. shown (state g b) (state g a).now (stays.holds is_open);
    says = λ is_open. inl (stays.holds is_open).now_is;
    leaves = λ clean is_open. stays_leaves a b rests stays clean is_open;
    left = λ clean is_open sound. left_each (state g a).now (state g b) sound
        (stays_leaves a b rests stays clean is_open);
  }

  module _ {E : Type 0} (b c : Held S) (open_b : IsTrue (state g b).is_open) where
    -- after the transaction it holds what it shows, which is what it held or what was made of it
    turned_holds : (r : Result (Unit {0}) E) → Turns Only (state g b) (state g c) r → HasCleanDisk (state g c)
        → IsTrue (state g c).is_open → Holds (state g c) (state g c).now
    turned_holds (Ok x) turn clean is_open = (turn.done clean).1
    turned_holds (Err e) turn clean is_open = shown (state g c) (state g b).now (turn.undone is_open)

    turned_says : (r : Result (Unit {0}) E) → Turns Only (state g b) (state g c) r → HasCleanDisk (state g c)
        → IsTrue (state g c).is_open → ((state g c).now ≡ (state g b).now)
        ⊎ BringsOnly (state g b).now (state g c).now
    turned_says (Ok x) turn clean is_open = inr (turn.done clean).0
    turned_says (Err e) turn clean is_open = inl (turn.undone is_open).now_is

  -- one that was read, and then turned
  pub turned_may : {E : Type 0} (a b c : Held S) (r : Result (Unit {0}) E) → StaysStore g a b
      → (HasCleanDisk (state g b) → IsTrue (state g b).is_open) → IsTurned g b c r
      → MayBeBrought (state g a) (state g c)
  turned_may {E} a b c r stays opens turned = record {
    rests = turned.rests;
    clean = λ clean. let mid = turned.clean clean in omega (arith, stays.survives.clean, mid);
    was_open = λ is_open. stays.was_open (mid_open is_open);
    holds = λ is_open. turned_holds b c (mid_open is_open) r (turned.turns (mid_open is_open))
        (clean_open g shuts settles c is_open) is_open;
    says = λ is_open. subst (λ (db : Database). ((state g c).now ≡ db) ⊎ BringsOnly db (state g c).now)
        (stays.holds (mid_open is_open)).now_is
        (turned_says b c (mid_open is_open) r (turned.turns (mid_open is_open)) (clean_open g shuts settles c is_open)
        is_open);
    leaves = λ clean is_open. turned_leaves clean;
    left = λ clean is_open sound. left_each (state g a).now (state g c) sound (turned_leaves clean);
  }
    where
      turned_leaves : HasCleanDisk (state g c) → LeavesOldOrBrought (state g a).now (state g c)
      turned_leaves clean trees may =
          let open_b : IsTrue (state g b).is_open = opens (turned.clean clean) in
          subst (λ (db : Database). (trees ≡ db.trees) ⊎ WouldLeave Only db trees) (stays.holds open_b).now_is
          ((turned.turns open_b).left clean open_b trees may)

      mid_open : IsTrue (state g c).is_open → IsTrue (state g b).is_open
      mid_open is_open = opens (turned.clean (clean_open g shuts settles c is_open))

  -- one that was read, and then turned or not
  pub either_may : {E : Type 0} (a b c : Held S) → Rests (state g a) → StaysStore g a b
      → (HasCleanDisk (state g b) → IsTrue (state g b).is_open) → MayBeTurned g E b c
      → MayBeBrought (state g a) (state g c)
  either_may a b c rests stays opens (inl same) = subst (λ (h : Held S). MayBeBrought (state g a) (state g h))
      (sym same) (stays_may a b rests stays)
  either_may a b c rests stays opens (inr it) = turned_may a b c it.0 stays opens it.1

module _ {S : Type 0} (g : Ghosts S) where
  -- of one that was turned, and whose disk is clean, the package at the second version
  pub turned_reads : {E : Type 0} (b c : Held S) → IsTrue (state g b).is_open → IsTurned g {E = E} b c (Ok tt)
      → HasCleanDisk (state g c) → (f : Frame) (p : Package) → ReadsAtOne f p (state g b).now
      → Reads f p (state g c).now
  turned_reads b c open_b turned clean f p reads = (((turned.turns open_b).done clean).0.either f p reads).0
