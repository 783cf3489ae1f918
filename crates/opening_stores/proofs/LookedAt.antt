-- Stores that are looked at one after the other, and what of the first ones was seen.
use Rattle.std.specs.Prelude.{◌≡◌, ℕ, zero, suc, ◌+◌, ◌<◌, ◌≤◌, List, [], ◌∷◌, ◌++◌}
use Rattle.std.specs.Prelude.{length, refl, Some, Result, Ok}
use Rattle.std.specs.Prelude.{slice_get, slice_set, IsTrue}
use Rattle.std.specs.List.{AllZip, AllByRecursion}
use Rattle.std.proofs.Common.{sym, ap, subst, ◌∙◌, arith, drop, take, get_or}
use Rattle.std.proofs.Math.Seq.{drop-cons, set-append_seam}
use Rattle.std.proofs.lemmas.List.{take_all, append-nil}
use Rattle.std.proofs.lemmas.List.Elements.{All-set, All-from_recursion, recursion_from_All}
use Rattle.std.proofs.lemmas.Option.{slice_get-get_or}
use Rattle.sqlite.specs.Store.{Ghosts}
use Rattle.sqlite.specs.Held.{Held, state}
use Rattle.sqlite.specs.State.{HasCleanDisk}
use Rattle.sqlite_trees.proofs.ListLemmas.{all-slice_get}
use Rattle.sheet_types.proofs.Basics.{some_once}
use Rattle.package_tables.proofs.Seams.{all_back, at_seam, joined, long_snoc, past_none, take_drop}
use Rattle.sheet_types.proofs.Every.{All-snoc}
use Rattle.store_sql.specs.Transactions.{Rests, Looks}
use Rattle.store_sql.specs.Writing.{AreKeyed}
use Rattle.store_sql.proofs.Staying.{looks_stays, stays_then}
use Rattle.store_sql.proofs.Transactions.{Shuts, Settles}
use Rattle.package_schema.specs.Looking.{SaysOf}
use Rattle.opening_v1.specs.Either.{IsSeenAtEither}
use Rattle.opening_verdict.specs.declared.seen.StoreSeen.{StoreSeen}
use Rattle.opening_verdict.proofs.Lists.{zip_more}
use Rattle.world_changes.specs.Leaving.{AreClean, AreAtRest}
use Rattle.world_members.proofs.Seeing.{stays_still}
use Rattle.opening_stores.specs.Stores.{AreAllKeyed, AreOnlyRead, AreOpenWhereClean, AreSurveyed, IsSurveyed}
use Rattle.opening_stores.specs.Stores.{LooksAtOne, StaysStore}

-- of lists that go on, place by place
zip_append : {A B : Type 0} (R : A → B → Type 0) (xs us : List A) (ys vs : List B) → AllZip R xs ys
    → AllZip R us vs
    → AllZip R (xs ++ us) (ys ++ vs)
zip_append R [] us [] vs one two = two
zip_append R [] us (y ∷ ys) vs one two = absurd one
zip_append R (x ∷ xs) us [] vs one two = absurd one
zip_append R (x ∷ xs) us (y ∷ ys) vs one two = (one.0, zip_append R xs us ys vs one.1 two)

zip_itself : {X : Type 0} (P : X → Type 0) (R : X → X → Type 0) → ((x : X) → P x → R x x) → (xs : List X)
    → AllByRecursion P xs → AllZip R xs xs
zip_itself P R f [] each = tt
zip_itself P R f (x ∷ xs) each = (f x each.0, zip_itself P R f xs each.1)

zip_last : {A B : Type 0} (R : A → B → Type 0) (xs : List A) (ys : List B) (x : A) (y : B) → AllZip R xs ys
    → R x y
    → AllZip R (xs ++ x ∷ []) (ys ++ y ∷ [])
zip_last R xs ys x y zip here = zip_append R xs (x ∷ []) ys (y ∷ []) zip (here, tt)

module _ {S : Type 0} (g : Ghosts S) where
  abbrev Resting : Held S → Type 0
  Resting h = Rests (state g h)

  abbrev Cleanly : Held S → Type 0
  Cleanly h = HasCleanDisk (state g h)

  abbrev Keyed : Held S → Type 0
  Keyed h = HasCleanDisk (state g h) → AreKeyed (state g h).now

  abbrev OpenWhereClean : Held S → Type 0
  OpenWhereClean h = HasCleanDisk (state g h) → IsTrue (state g h).is_open

  -- the first n were looked at, and this was seen of them
  pub record Surveyed (old now : List (Held S)) (n : ℕ) (seen : List StoreSeen) : Type 0 where
    pub done : List (Held S)
    pub long : length done ≡ n
    pub now_is : now ≡ done ++ drop n old
    pub read : AllZip (StaysStore g) (take n old) done
    pub rests : AreAtRest g now
    pub opens : AllByRecursion OpenWhereClean done
    pub told : AreAllKeyed g old → AreClean g done → AllZip (IsSurveyed g) done seen

  pub surveyed_none : (old : List (Held S)) → AreAtRest g old → Surveyed old old 0 []
  surveyed_none old rests = record {
    done = [];
    long = refl;
    now_is = refl;
    read = tt;
    rests = rests;
    opens = tt;
    told = λ keyed clean. tt;
  }

  module _ {E : Type 0} (old now new : List (Held S)) (n : ℕ) (seen : List StoreSeen) (r : Result StoreSeen E)
      (within : n < length old) (it : Surveyed old now n seen) (look : LooksAtOne g {E = E} now new n r) where
    abbrev here : Held S
    here = get_or old n look.was

    behind : drop n old ≡ here ∷ drop (suc n) old
    behind = drop-cons old n look.was within

    now_so : now ≡ it.done ++ here ∷ drop (suc n) old
    now_so = it.now_is ∙ ap (λ l. it.done ++ l) behind

    was_is : look.was ≡ here
    was_is = some_once (slice_get now n) look.was here look.place
        (ap (λ l. slice_get l n) now_so ∙ ap (slice_get (it.done ++ here ∷ drop (suc n) old)) (sym it.long)
        ∙ at_seam it.done here (drop (suc n) old))

    new_so : new ≡ it.done ++ look.last ∷ drop (suc n) old
    new_so = look.others ∙ ap (λ l. slice_set l n look.last) now_so
        ∙ ap (λ k. slice_set (it.done ++ here ∷ drop (suc n) old) k look.last) (sym it.long)
        ∙ set-append_seam it.done here (drop (suc n) old) look.last

    stays : StaysStore g here look.last
    stays = subst (λ h. StaysStore g h look.last) was_is (looks_stays look.looked)

    place_old : slice_get old n ≡ Some here
    place_old = slice_get-get_or old n look.was within

    pub rests_new : AreAtRest g new
    rests_new = subst (AreAtRest g) (sym look.others) (All-set Resting now n look.last stays.rests it.rests)

    done_read : AllZip (StaysStore g) (take (n + 1) old) (it.done ++ look.last ∷ [])
    done_read = zip_more (StaysStore g) old n here it.done look.last within (here_is place_old) it.read stays
      where
        here_is : slice_get old n ≡ Some here → here ≡ get_or old n here
        here_is is = sym (some_once (slice_get old n) (get_or old n here) here (slice_get-get_or old n here within) is)

    front : new ≡ (it.done ++ look.last ∷ []) ++ drop (n + 1) old
    front = new_so ∙ sym (joined it.done look.last (drop (suc n) old))
        ∙ ap (λ k. (it.done ++ look.last ∷ []) ++ drop k old) (let e : suc n ≡ n + 1 = omega arith in e)

    -- one more was seen
    pub surveyed_more : (x : StoreSeen) → r ≡ Ok x → Surveyed old new (n + 1) (seen ++ x ∷ [])
    surveyed_more x is = record {
      done = it.done ++ look.last ∷ [];
      long = omega (arith, long_snoc it.done look.last, it.long);
      now_is = front;
      read = done_read;
      rests = rests_new;
      opens = All-snoc OpenWhereClean it.done look.last it.opens (λ clean. (looks.done clean).0);
      told = λ keyed clean.
          let each : AllByRecursion Cleanly (it.done ++ look.last ∷ []) =
          recursion_from_All Cleanly (it.done ++ look.last ∷ []) clean in
          let two : AllByRecursion Cleanly it.done × AllByRecursion Cleanly (look.last ∷ []) =
          all_back Cleanly it.done (look.last ∷ []) each in
          zip_last (IsSurveyed g) it.done seen look.last x (it.told keyed (All-from_recursion Cleanly it.done two.0))
          (one keyed two.1.0);
    }
      where
        looks : Looks {X = StoreSeen} {E = E} (SaysOf IsSeenAtEither) (state g look.was) (state g look.last) (Ok x)
        looks = subst (Looks {X = StoreSeen} {E = E} (SaysOf IsSeenAtEither) (state g look.was) (state g look.last))
            is look.looked

        one : AreAllKeyed g old → Cleanly look.last → IsSurveyed g look.last x
        one keyed clean =
            let told = looks.done clean in
            let key : Keyed look.was = subst Keyed (sym was_is)
            (all-slice_get Keyed old n here place_old (recursion_from_All Keyed old keyed)) in
            record {
              is_open = told.0;
              right = subst (λ d. IsSeenAtEither d x) (sym told.1.0)
                  (told.1.1 (key (omega (arith, look.looked.survives.clean, clean))));
            }

    -- and where it failed, all were only read
    pub read_failed : Shuts g → Settles g → AreOnlyRead g old new
    read_failed shuts settles =
        let rest : AllByRecursion Resting (drop (n + 1) old) =
        (all_back Resting (it.done ++ look.last ∷ []) (drop (n + 1) old)
        (recursion_from_All Resting ((it.done ++ look.last ∷ []) ++ drop (n + 1) old)
        (subst (AreAtRest g) front rests_new))).1 in
        subst (λ l. AreOnlyRead g l new) (take_drop old (n + 1))
        (subst (AllZip (StaysStore g) (take (n + 1) old ++ drop (n + 1) old)) (sym front)
        (zip_append (StaysStore g) (take (n + 1) old) (drop (n + 1) old) (it.done ++ look.last ∷ [])
        (drop (n + 1) old) done_read
        (zip_itself Resting (StaysStore g) (λ h rests. stays_still g shuts settles h rests) (drop (n + 1) old) rest)))

  -- stores at rest that no one looks at stay as they are
  pub all_still : Shuts g → Settles g → (stores : List (Held S)) → AreAtRest g stores
      → AreOnlyRead g stores stores
  all_still shuts settles stores rests = zip_itself Resting (StaysStore g)
      (λ h rest. stays_still g shuts settles h rest) stores (recursion_from_All Resting stores rests)

  -- one look after another
  pub read_then : (a b c : List (Held S)) → AreOnlyRead g a b → AreOnlyRead g b c → AreOnlyRead g a c
  read_then [] [] [] one two = tt
  read_then [] [] (z ∷ zs) one two = absurd two
  read_then [] (y ∷ ys) zs one two = absurd one
  read_then (x ∷ xs) [] zs one two = absurd one
  read_then (x ∷ xs) (y ∷ ys) [] one two = absurd two
  read_then (x ∷ xs) (y ∷ ys) (z ∷ zs) one two = (stays_then one.0 two.0, read_then xs ys zs one.1 two.1)

  -- all were looked at
  module _ (old now : List (Held S)) (n : ℕ) (seen : List StoreSeen) (past : length old ≤ n)
      (it : Surveyed old now n seen) where
    all_done : now ≡ it.done
    all_done = it.now_is ∙ ap (λ l. it.done ++ l) (past_none old n past) ∙ append-nil it.done

    pub all_read : AreOnlyRead g old now
    all_read = subst (AllZip (StaysStore g) old) (sym all_done)
        (subst (λ l. AllZip (StaysStore g) l it.done) (take_all n old past) it.read)

    pub all_seen : AreSurveyed g old now seen
    all_seen = λ keyed clean. subst (λ l. AllZip (IsSurveyed g) l seen) (sym all_done)
        (it.told keyed (subst (AreClean g) all_done clean))

    pub all_open : AreOpenWhereClean g now
    all_open = All-from_recursion OpenWhereClean now (subst (AllByRecursion OpenWhereClean) (sym all_done) it.opens)
