-- What became of the stores that were handed in: only read, or brought, and the strays as they were.
use Rattle.std.specs.Prelude.{◌≡◌, ℕ, List, [], ◌∷◌, ◌++◌, map, refl, Option, Some, None}
use Rattle.std.specs.Prelude.{MatchOption, Ok, IsTrue}
use Rattle.std.specs.List.{AllZip, AllByRecursion}
use Rattle.std.proofs.Common.{sym, ap, subst, ◌∙◌, inl, inr}
use Rattle.std.proofs.lemmas.List.Elements.{All-from_recursion, recursion_from_All}
use Rattle.sqlite.specs.Effect.{Database}
use Rattle.sqlite.specs.Held.{Held, state}
use Rattle.sqlite.specs.State.{HasCleanDisk}
use Rattle.sqlite.specs.Store.{Ghosts}
use Rattle.sheet_types.proofs.Every.{All-weaker}
use Rattle.store_sql.specs.Transactions.{Rests}
use Rattle.store_sql.proofs.Transactions.{Shuts, Settles}
use Rattle.sheet_laws.specs.Laws.{StoreSight}
use Rattle.opening_faults.specs.declared.faults.RecoverFault.{RecoverFault}
use Rattle.package_tables.specs.declared.fault.Fault.{Fault}
use Rattle.opening_v1.specs.Either.{IsViewAtEither}
use Rattle.opening_verdict.specs.declared.verdict.Kept.{Kept}
use Rattle.world_changes.specs.Leaving.{AreAtRest, AreClean}
use Rattle.opening_stores.specs.Brought.{Place, AreAllTurned, SomeAreTurned, IsTurned, MayAllBeBrought, MayBeBrought}
use Rattle.opening_stores.specs.Brought.{MayBeTurned}
use Rattle.opening_stores.specs.Judged.{IsFaultAt}
use Rattle.opening_stores.specs.Sharing.{strays_of, with_stray}
use Rattle.opening_stores.specs.Stores.{AreOnlyRead, AreOpenWhereClean, StaysStore}
use Rattle.opening_stores.proofs.Brought.{either_may, stays_may}

module _ {S : Type 0} (g : Ghosts S) where
  abbrev Right : Held S → StoreSight → Type 0
  Right h v = IsTrue (state g h).is_open × IsViewAtEither (state g h).now v

  abbrev Resting : Held S → Type 0
  Resting h = Rests (state g h)

  abbrev Cleanly : Held S → Type 0
  Cleanly h = HasCleanDisk (state g h)

  abbrev OpenWhereClean : Held S → Type 0
  OpenWhereClean h = HasCleanDisk (state g h) → IsTrue (state g h).is_open

  -- ---- what is right of stores that were read is right of them before

  pub reread : (old new : List (Held S)) (views : List StoreSight) → AllZip (StaysStore g) old new
      → AllZip Right new views → AllZip Right old views
  reread [] [] [] stay right = tt
  reread [] [] (v ∷ views) stay right = absurd right
  reread [] (b ∷ new) views stay right = absurd stay
  reread (a ∷ old) [] views stay right = absurd stay
  reread (a ∷ old) (b ∷ new) [] stay right = absurd right
  reread (a ∷ old) (b ∷ new) (v ∷ views) stay right = (
    (
      stay.0.was_open right.0.0,
      subst
          (λ (db : Database). IsViewAtEither db v) (stay.0.holds right.0.0).now_is right.0.1,
    ),
    reread old new views stay.1
        right.1,
  )

  pub fault_before : (old new : List (Held S)) (fault : RecoverFault) → AreOnlyRead g old new
      → IsFaultAt g new fault
      → IsFaultAt g old fault
  fault_before old new fault stay (inl want) = inl want
  fault_before old new fault stay (inr (views, right, is)) = inr (views, reread old new views stay right, is)

  -- ---- what became of each

  abbrev Tried : Place S → Type 0
  Tried p = MayBeTurned g Fault p.old p.now

  done_tried : (kept : Option Kept) (old now : Held S) → MatchOption kept (now ≡ old)
      (λ _. IsTurned g {E = Fault} old now (Ok tt)) → MayBeTurned g Fault old now
  done_tried None old now done = inl done
  done_tried (Some k) old now done = inr (Ok tt, done)

  may_tried : (kept : Option Kept) (old now : Held S) → MatchOption kept (now ≡ old)
      (λ _. MayBeTurned g Fault old now) → MayBeTurned g Fault old now
  may_tried None old now done = inl done
  may_tried (Some k) old now done = done

  -- one whose disk is clean had a clean one
  tried_clean : (old now : Held S) → MayBeTurned g Fault old now → Cleanly now → Cleanly old
  tried_clean old now (inl same) clean = subst Cleanly same clean
  tried_clean old now (inr it) clean = it.1.clean clean

  all_clean : (ps : List (Place S)) → AllByRecursion Tried ps → AllByRecursion Cleanly (map (λ p. p.now) ps)
      → AllByRecursion Cleanly (map (λ p. p.old) ps)
  all_clean [] tried clean = tt
  all_clean (p ∷ ps) tried clean = (tried_clean p.old p.now tried.0 clean.0, all_clean ps tried.1 clean.1)

  all_done : (kept : List (Option Kept)) (read now : List (Held S)) (turned : AreAllTurned g kept read now)
      → AllByRecursion Tried turned.places
  all_done kept read now turned = All-weaker (λ p. MatchOption p.kept (p.now ≡ p.old)
      (λ _. IsTurned g {E = Fault} p.old p.now (Ok tt))) Tried (λ p done. done_tried p.kept p.old p.now done)
      turned.places turned.each

  pub clean_before : (kept : List (Option Kept)) (read now : List (Held S)) → AreAllTurned g kept read now
      → AreClean g now → AreClean g read
  clean_before kept read now turned clean =
      All-from_recursion Cleanly read (subst (AllByRecursion Cleanly) (sym turned.old_is)
      (all_clean turned.places (all_done kept read now turned)
      (subst (AllByRecursion Cleanly) turned.new_is (recursion_from_All Cleanly now clean))))

  -- some that were turned, or may have been
  pub some_clean_before : (kept : List (Option Kept)) (read now : List (Held S)) → SomeAreTurned g kept read now
      → AreClean g now → AreClean g read
  some_clean_before kept read now turned clean =
      let tried : AllByRecursion Tried turned.places = All-weaker
      (λ p. MatchOption p.kept (p.now ≡ p.old) (λ _. MayBeTurned g Fault p.old p.now)) Tried
      (λ p done. may_tried p.kept p.old p.now done) turned.places turned.each in
      All-from_recursion Cleanly read (subst (AllByRecursion Cleanly) (sym turned.old_is)
      (all_clean turned.places tried (subst (AllByRecursion Cleanly) turned.new_is
      (recursion_from_All Cleanly now clean))))

  module _ (shuts : Shuts g) (settles : Settles g) where
    pub all_stay_may : (old new : List (Held S)) → AllByRecursion Resting old → AllZip (StaysStore g) old new
        → MayAllBeBrought g old new
    all_stay_may [] [] rests stay = tt
    all_stay_may [] (b ∷ bs) rests stay = absurd stay
    all_stay_may (a ∷ old) [] rests stay = absurd stay
    all_stay_may (a ∷ old) (b ∷ bs) rests stay = (
      stays_may g shuts settles a b rests.0 stay.0,
      all_stay_may old bs
          rests.1 stay.1,
    )

    all_may : (stores : List (Held S)) (ps : List (Place S)) → AllByRecursion Resting stores
        → AllZip (StaysStore g) stores (map (λ p. p.old) ps) → AllByRecursion OpenWhereClean (map (λ p. p.old) ps)
        → AllByRecursion Tried ps → MayAllBeBrought g stores (map (λ p. p.now) ps)
    all_may [] [] rests stay opens tried = tt
    all_may [] (p ∷ ps) rests stay opens tried = absurd stay
    all_may (a ∷ stores) [] rests stay opens tried = absurd stay
    all_may (a ∷ stores) (p ∷ ps) rests stay opens tried = (
      either_may g shuts settles a p.old p.now rests.0 stay.0
          opens.0 tried.0,
      all_may stores ps rests.1 stay.1 opens.1 tried.1,
    )

    may_of : (stores read now : List (Held S)) (ps : List (Place S)) → read ≡ map (λ p. p.old) ps
        → now ≡ map (λ p. p.now) ps → AreAtRest g stores → AreOnlyRead g stores read
        → AreOpenWhereClean g read
        → AllByRecursion Tried ps → MayAllBeBrought g stores now
    may_of stores read now ps old_is new_is rests stay opens tried =
        subst (MayAllBeBrought g stores) (sym new_is)
        (all_may stores ps (recursion_from_All Resting stores rests)
        (subst (AllZip (StaysStore g) stores) old_is stay)
        (subst (AllByRecursion OpenWhereClean) old_is (recursion_from_All OpenWhereClean read opens)) tried)

    -- some were turned before memory or a store gave out
    pub some_may : (kept : List (Option Kept)) (stores read now : List (Held S)) → AreAtRest g stores
        → AreOnlyRead g stores read → AreOpenWhereClean g read → SomeAreTurned g kept read now
        → MayAllBeBrought g stores now
    some_may kept stores read now rests stay opens turned =
        may_of stores read now turned.places turned.old_is turned.new_is rests stay opens
        (All-weaker (λ p. MatchOption p.kept (p.now ≡ p.old) (λ _. MayBeTurned g Fault p.old p.now)) Tried
        (λ p done. may_tried p.kept p.old p.now done) turned.places turned.each)

    pub all_turned_may : (kept : List (Option Kept)) (stores read now : List (Held S)) → AreAtRest g stores
        → AreOnlyRead g stores read → AreOpenWhereClean g read → AreAllTurned g kept read now
        → MayAllBeBrought g stores now
    all_turned_may kept stores read now rests stay opens turned =
        may_of stores read now turned.places turned.old_is turned.new_is rests stay opens
        (all_done kept read now turned)

  -- ---- the strays

  -- what goes with a store that was read
  pub read_of : {A B : Type 0} (P : A → Type 0) (R : A → B → Type 0) (xs : List A) (ys : List B)
      → AllByRecursion P xs
      → AllZip R xs ys → AllByRecursion (λ y. (x : A) × P x × R x y) ys
  read_of P R [] [] each zip = tt
  read_of P R [] (y ∷ ys) each zip = absurd zip
  read_of P R (x ∷ xs) [] each zip = absurd zip
  read_of P R (x ∷ xs) (y ∷ ys) each zip = ((x, each.0, zip.0), read_of P R xs ys each.1 zip.1)

  stray_still : (kept : Option Kept) (old now : Held S) (hs : List (Held S))
      → MatchOption kept (now ≡ old) (λ _. IsTurned g {E = Fault} old now (Ok tt))
      → with_stray now kept hs ≡ with_stray old kept hs
  stray_still None old now hs same = ap (λ h. hs ++ h ∷ []) same
  stray_still (Some k) old now hs done = refl

  strays_still : (ps : List (Place S)) → AllByRecursion (λ p. MatchOption p.kept (p.now ≡ p.old)
      (λ _. IsTurned g {E = Fault} p.old p.now (Ok tt))) ps → strays_of (map (λ p. p.now) ps)
      (map (λ p. p.kept) ps)
      ≡ strays_of (map (λ p. p.old) ps) (map (λ p. p.kept) ps)
  strays_still [] done = refl
  strays_still (p ∷ ps) done = ap (with_stray p.now p.kept) (strays_still ps done.1)
      ∙ stray_still p.kept p.old p.now (strays_of (map (λ x. x.old) ps) (map (λ x. x.kept) ps)) done.0

  pub same_strays : (kept : List (Option Kept)) (read now : List (Held S)) → AreAllTurned g kept read now
      → strays_of now kept ≡ strays_of read kept
  same_strays kept read now turned =
      ap (λ l. strays_of l kept) turned.new_is ∙ ap (strays_of (map (λ (p : Place S). p.now) turned.places))
      turned.kept_is ∙ strays_still turned.places turned.each
      ∙ sym (ap (λ l. strays_of l kept) turned.old_is ∙ ap (strays_of
      (map (λ (p : Place S). p.old) turned.places))
      turned.kept_is)
