-- Of stores that were looked at, and of which some may have been brought, only those of packages may have changed.
use Rattle.std.specs.Prelude.{◌≡◌, ℕ, true, false, Bool, cond, IsTrue, List, [], ◌∷◌, filter, map, refl}
use Rattle.std.specs.Prelude.{Option, Some}
use Rattle.std.specs.Prelude.{None, MatchOption}
use Rattle.std.specs.List.{AllZip, AllByRecursion}
use Rattle.std.proofs.Common.{sym, ap, subst, ◌∙◌, inl, inr}
use Rattle.std.proofs.lemmas.Bool.{true≢false}
use Rattle.sqlite.specs.Effect.{Database}
use Rattle.sqlite.specs.Held.{Held, state}
use Rattle.sqlite.specs.Store.{Ghosts}
use Rattle.sheet_types.specs.World.{World}
use Rattle.sheet_types.specs.declared.frame.Frame.{Frame}
use Rattle.sheet_types.proofs.Every.{All-both}
use Rattle.sheet_laws.specs.Laws.{StoreSight}
use Rattle.package_tables.specs.declared.fault.Fault.{Fault}
use Rattle.package_v1.specs.FirstVersion.{ReadsAtOne}
use Rattle.opening_v1.specs.Either.{IsViewAtEither}
use Rattle.opening_verdict.specs.Views.{IsKeptOf, is_live_view, live_views}
use Rattle.opening_verdict.specs.declared.verdict.Kept.{Kept}
use Rattle.opening_verdict.specs.declared.verdict.Verdict.{Verdict}
use Rattle.opening_stores.specs.Brought.{Place, SomeAreTurned, MayBeTurned}
use Rattle.opening_stores.specs.Strangers.{IsStillOrPackage, AreStillOrPackages, AreOthersRead, AreStraysRead}
use Rattle.opening_stores.specs.Judged.{AreJudged}
use Rattle.opening_stores.specs.Stores.{AreOnlyRead, StaysStore}
use Rattle.opening_stores.proofs.HandedIn.{reread}
use Rattle.opening_stores.proofs.Members.{reads_at_one}

-- what is so of those that pass is so of each where it passes
all_passing : {X : Type 0} (P : X → Type 0) (passes : X → Bool) (xs : List X)
    → AllByRecursion P (filter passes xs)
    → AllByRecursion (λ x. passes x ≡ true → P x) xs
all_passing P passes [] all = tt
all_passing P passes (x ∷ xs) all = one (all_passing P passes xs) (passes x) refl
  where
    one : (AllByRecursion P (filter passes xs) → AllByRecursion (λ y. passes y ≡ true → P y) xs) → (b : Bool)
        → passes x ≡ b → AllByRecursion (λ y. passes y ≡ true → P y) (x ∷ xs)
    one more true e =
        let there : AllByRecursion P (x ∷ filter passes xs) =
        subst (λ b. AllByRecursion P (cond b (x ∷ filter passes xs) (filter passes xs))) e all in
        ((λ h. there.0), more there.1)
    one more false e =
        let there : AllByRecursion P (filter passes xs) = subst
        (λ b. AllByRecursion P (cond b (x ∷ filter passes xs) (filter passes xs))) e all in
        ((λ h. absurd (true≢false (sym h ∙ e))), more there)

abbrev IsSoundView : StoreSight → Type 0
IsSoundView v = (v.is_formed ≡ true) × (v.is_tied ≡ true)

module _ {S : Type 0} (g : Ghosts S) where
  abbrev Right : Held S → StoreSight → Type 0
  Right h v = IsTrue (state g h).is_open × IsViewAtEither (state g h).now v

  abbrev MayBeDone : Place S → Type 0
  MayBeDone p = MatchOption p.kept (p.now ≡ p.old) (λ _. MayBeTurned g Fault p.old p.now)

  pub all_read : (old new : List (Held S)) → AreOnlyRead g old new → AreStillOrPackages g old new
  all_read [] [] stay = tt
  all_read [] (b ∷ new) stay = absurd stay
  all_read (a ∷ old) [] stay = absurd stay
  all_read (a ∷ old) (b ∷ new) stay = (inr (inl stay.0), all_read old new stay.1)

  pub all_same : (stores : List (Held S)) → AreStillOrPackages g stores stores
  all_same [] = tt
  all_same (a ∷ stores) = (inl refl, all_same stores)

  -- a store that reads as a package where it is of a live one, and else is as it was after the look
  one_still : (views : List StoreSight) (w : World) (kept : Option Kept) (was old now : Held S) (v : StoreSight)
      → StaysStore g was old → MayBeDone (record { kept = kept; old = old; now = now }) → IsKeptOf views w kept v
      → Right old v → (is_live_view views v ≡ true → IsSoundView v) → IsStillOrPackage g was now
  one_still views w None was old now v stay done keep right sound = inr (inl (subst (StaysStore g was) (sym done) stay))
  one_still views w (Some k) was old now v stay done keep right sound =
      let good : IsSoundView v = sound keep.live in
      inr (inr (
        v.frame,
        v.reads_as,
        subst (λ (db : Database). ReadsAtOne v.frame v.reads_as db)
            (stay.holds right.0).now_is (reads_at_one g (state g old).now v right.1 good.0 good.1),
      ))

  each_still : (views : List StoreSight) (w : World) (was : List (Held S)) (ps : List (Place S))
      (vs : List StoreSight) → AllZip (StaysStore g) was (map (λ p. p.old) ps) → AllByRecursion MayBeDone ps
      → AllZip (IsKeptOf views w) (map (λ p. p.kept) ps) vs → AllZip Right (map (λ p. p.old) ps) vs
      → AllByRecursion (λ v. is_live_view views v ≡ true → IsSoundView v) vs
      → AreStillOrPackages g was (map (λ p. p.now) ps)
  each_still views w [] [] vs stay done keep right sound = tt
  each_still views w [] (p ∷ ps) vs stay done keep right sound = absurd stay
  each_still views w (a ∷ was) [] vs stay done keep right sound = absurd stay
  each_still views w (a ∷ was) (p ∷ ps) [] stay done keep right sound = absurd right
  each_still views w (a ∷ was) (p ∷ ps) (v ∷ vs) stay done keep right sound = (
    one_still views w p.kept a p.old p.now v stay.0 done.0 keep.0 right.0 sound.0,
    each_still views w was ps vs
        stay.1 done.1 keep.1 right.1 sound.1,
  )

  -- what was judged, and then brought as far as memory and the stores went
  pub some_still : (stores read now : List (Held S)) (frame : Frame) (verdict : Verdict) (known : List (List ℕ))
      → AreOnlyRead g stores read → AreJudged g read frame verdict known
      → SomeAreTurned g verdict.kept.items read now
      → AreStillOrPackages g stores now
  some_still stores read now frame verdict known stay it turned =
      let sound : AllByRecursion IsSoundView (live_views it.views) =
      All-both (λ v. v.is_formed ≡ true) (λ v. v.is_tied ≡ true) IsSoundView (λ v a b. (a, b))
      (live_views it.views) it.is.stands.in_order.formed it.is.stands.in_order.tied in
      subst (AreStillOrPackages g stores) (sym turned.new_is)
      (each_still it.views it.is.world stores turned.places it.views
      (subst (AllZip (StaysStore g) stores) turned.old_is stay) turned.each
      (subst (λ l. AllZip (IsKeptOf it.views it.is.world) l it.views) turned.kept_is it.is.kept)
      (subst (λ l. AllZip Right l it.views) turned.old_is it.right)
      (all_passing IsSoundView (is_live_view it.views) it.views sound))

  -- ---- the strays

  -- one that is not live is as it was after the look
  one_apart : (views : List StoreSight) (w : World) (kept : Option Kept) (was old now : Held S) (v : StoreSight)
      → StaysStore g was old → MayBeDone (record { kept = kept; old = old; now = now }) → IsKeptOf views w kept v
      → is_live_view views v ≡ false → StaysStore g was now
  one_apart views w None was old now v stay done keep dead = subst (StaysStore g was) (sym done) stay
  one_apart views w (Some k) was old now v stay done keep dead = absurd (true≢false (sym keep.live ∙ dead))

  each_apart : (views : List StoreSight) (w : World) (was : List (Held S)) (ps : List (Place S))
      (vs : List StoreSight) → AllZip (StaysStore g) was (map (λ p. p.old) ps) → AllByRecursion MayBeDone ps
      → AllZip (IsKeptOf views w) (map (λ p. p.kept) ps) vs
      → AreOthersRead g (is_live_view views) was (map (λ p. p.now) ps) vs
  each_apart views w [] [] [] stay done keep = tt
  each_apart views w [] [] (v ∷ vs) stay done keep = absurd keep
  each_apart views w [] (p ∷ ps) vs stay done keep = absurd stay
  each_apart views w (a ∷ was) [] vs stay done keep = absurd stay
  each_apart views w (a ∷ was) (p ∷ ps) [] stay done keep = absurd keep
  each_apart views w (a ∷ was) (p ∷ ps) (v ∷ vs) stay done keep = (
    one_apart views w p.kept a p.old p.now v stay.0 done.0 keep.0,
    each_apart views w was ps vs stay.1 done.1 keep.1,
  )

  -- what was judged, and then brought as far as memory and the stores went: no stray was
  pub some_apart : (stores read now : List (Held S)) (frame : Frame) (verdict : Verdict) (known : List (List ℕ))
      → AreOnlyRead g stores read → AreJudged g read frame verdict known
      → SomeAreTurned g verdict.kept.items read now
      → AreStraysRead g stores now
  some_apart stores read now frame verdict known stay it turned = record {
    views = it.views;
    right = reread g stores read it.views stay it.right;
    world = it.is.world;
    stand = it.is.stands;
    strays = subst (λ l. AreOthersRead g (is_live_view it.views) stores l it.views) (sym turned.new_is)
        (each_apart it.views it.is.world stores turned.places it.views
        (subst (AllZip (StaysStore g) stores) turned.old_is stay) turned.each
        (subst (λ l. AllZip (IsKeptOf it.views it.is.world) l it.views) turned.kept_is it.is.kept));
  }
