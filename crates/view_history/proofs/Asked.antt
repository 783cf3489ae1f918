-- Stores that are asked one after the other, and what the first ones answered.
use Rattle.std.specs.Prelude.{◌≡◌, ℕ, zero, suc, ◌+◌, ◌<◌, ◌≤◌, List, [], ◌∷◌, ◌++◌}
use Rattle.std.specs.Prelude.{length, refl, Some, Result, Ok}
use Rattle.std.specs.Prelude.{Err, IsErr, slice_get, slice_set}
use Rattle.std.specs.List.{AllZip, AllByRecursion}
use Rattle.std.proofs.Common.{sym, ap, subst, ◌∙◌, arith, drop, take, get_or}
use Rattle.std.proofs.Math.Seq.{drop-cons, set-append_seam, take-suc}
use Rattle.std.proofs.lemmas.List.{take_all, append-nil}
use Rattle.std.proofs.lemmas.List.Elements.{All-set, All-from_recursion, recursion_from_All}
use Rattle.std.proofs.lemmas.Option.{slice_get-get_or}
use Rattle.sqlite.specs.Store.{Ghosts}
use Rattle.sqlite.specs.Held.{Held, state}
use Rattle.sqlite.specs.State.{HasCleanDisk}
use Rattle.sheet_types.proofs.Basics.{some_once}
use Rattle.package_tables.proofs.Seams.{all_back, at_seam, joined, long_snoc, past_none, take_drop}
use Rattle.sheet_types.specs.World.{Package}
use Rattle.sheet_types.specs.declared.frame.Frame.{Frame}
use Rattle.store_sql.specs.Staying.{Stays}
use Rattle.store_sql.specs.Transactions.{Rests, Looks}
use Rattle.store_sql.proofs.Staying.{looks_stays, stays_then}
use Rattle.store_sql.proofs.Transactions.{Shuts, Settles, at_rest, same_survives}
use Rattle.identity_register.specs.Calls.{Sees}
use Rattle.identity_register.specs.Reads.{Reads}
use Rattle.view_history.specs.Stores.{AreClean, AreAtRest, AreOnlyRead, AreRead, AsksAt, AsksStores, IsRead, StaysStore}

-- ---- lists, place by place

zip_append : {A B : Type 0} (R : A → B → Type 0) (xs us : List A) (ys vs : List B) → AllZip R xs ys
    → AllZip R us vs
    → AllZip R (xs ++ us) (ys ++ vs)
zip_append R [] us [] vs one two = two
zip_append R [] us (y ∷ ys) vs one two = absurd one
zip_append R (x ∷ xs) us [] vs one two = absurd one
zip_append R (x ∷ xs) us (y ∷ ys) vs one two = (one.0, zip_append R xs us ys vs one.1 two)

zip_last : {A B : Type 0} (R : A → B → Type 0) (xs : List A) (ys : List B) (x : A) (y : B) → AllZip R xs ys
    → R x y
    → AllZip R (xs ++ x ∷ []) (ys ++ y ∷ [])
zip_last R xs ys x y zip here = zip_append R xs (x ∷ []) ys (y ∷ []) zip (here, tt)

zip_itself : {X : Type 0} (P : X → Type 0) (R : X → X → Type 0) → ((x : X) → P x → R x x) → (xs : List X)
    → AllByRecursion P xs → AllZip R xs xs
zip_itself P R f [] each = tt
zip_itself P R f (x ∷ xs) each = (f x each.0, zip_itself P R f xs each.1)

-- the third list is tied to the second by what ties each to the first
pub zip_through : {A B C : Type 0} (R : A → B → Type 0) (Q : A → C → Type 0) (T : B → C → Type 0)
    → ((a : A) (b : B) (c : C) → R a b → Q a c → T b c)
    → (xs : List A) (ys : List B) (zs : List C) → AllZip R xs ys → AllZip Q xs zs → AllZip T ys zs
zip_through R Q T f [] [] [] one two = tt
zip_through R Q T f [] [] (z ∷ zs) one two = absurd two
zip_through R Q T f [] (y ∷ ys) zs one two = absurd one
zip_through R Q T f (x ∷ xs) [] zs one two = absurd one
zip_through R Q T f (x ∷ xs) (y ∷ ys) [] one two = absurd two
zip_through R Q T f (x ∷ xs) (y ∷ ys) (z ∷ zs) one two = (
  f x y z one.0 two.0,
  zip_through R Q T f xs ys zs
      one.1 two.1,
)

-- ---- stores

module _ {S : Type 0} (g : Ghosts S) where
  abbrev Resting : Held S → Type 0
  Resting h = Rests (state g h)

  abbrev Cleanly : Held S → Type 0
  Cleanly h = HasCleanDisk (state g h)

  -- a store at rest that no one asks stays as it is
  pub still : Shuts g → Settles g → (h : Held S) → Rests (state g h) → StaysStore g h h
  still shuts settles h rests = record {
    rests = rests;
    was_open = λ is_open. is_open;
    holds = λ is_open. at_rest g shuts settles h rests is_open;
    survives = same_survives (state g h);
  }

  pub all_still : Shuts g → Settles g → (stores : List (Held S)) → AreAtRest g stores
      → AreOnlyRead g stores stores
  all_still shuts settles stores rests = zip_itself Resting (StaysStore g) (λ h rest. still shuts settles h rest)
      stores (recursion_from_All Resting stores rests)

  -- stores that were only read, of which nothing is told
  pub asks_failed : {X E : Type 0} {Answer : List Package → X → Type 0} {old new : List (Held S)} (r : Result X E)
      → IsErr r → AreAtRest g new → AreOnlyRead g old new → AsksStores g {X = X} {E = E} Answer old new r
  asks_failed (Ok x) failed rests read = cc
  asks_failed (Err e) failed rests read = record { rests = rests; read = read; told = λ clean. tt }

  -- an answer says what follows from it
  pub asks_so : {X E : Type 0} (Given : List Package → X → Type 0) {Answer : List Package → X → Type 0}
      {old new : List (Held S)} (r : Result X E) → ((packages : List Package) (x : X) → Given packages x
      → Answer packages x)
      → AsksStores g {X = X} {E = E} Given old new r → AsksStores g {X = X} {E = E} Answer old new r
  asks_so Given (Ok x) so it = record {
    rests = it.rests;
    read = it.read;
    told = λ clean f packages are. so packages x (it.told clean f packages are);
  }
  asks_so Given (Err e) so it = record { rests = it.rests; read = it.read; told = λ clean. tt }

  -- what was made of an answer says what follows from it
  pub asks_then : {X Y E E' : Type 0} (Given : List Package → X → Type 0) {Answer : List Package → Y → Type 0}
      {old new : List (Held S)} {r : Result X E} {x : X} {y : Y} → r ≡ Ok x
      → ((packages : List Package) → Given packages x → Answer packages y)
      → AsksStores g {X = X} {E = E} Given old new r → AsksStores g {X = Y} {E = E'} Answer old new (Ok y)
  asks_then {X} {Y} {E} {E'} Given {Answer} {old} {new} {r} {x} {y} is so it =
      let here : AsksStores g {X = X} {E = E} Given old new (Ok x) =
      subst (AsksStores g {X = X} {E = E} Given old new) is it in
      record {
        rests = here.rests;
        read = here.read;
        told = λ clean f packages are. so packages
            (here.told clean f packages are);
      }

  -- and where nothing could be made of it, the stores were only read
  pub asks_lost : {X Y E E' : Type 0} (Given : List Package → X → Type 0) {Answer : List Package → Y → Type 0}
      {old new : List (Held S)} {r : Result X E} (q : Result Y E') → IsErr q
      → AsksStores g {X = X} {E = E} Given old new r → AsksStores g {X = Y} {E = E'} Answer old new q
  asks_lost Given q failed it = asks_failed q failed it.rests it.read

  -- ---- one question after another

  -- what a store reads as, it reads as after it was only read
  pub read_on : (f : Frame) (a b : List (Held S)) (packages : List Package) → AreOnlyRead g a b
      → AreRead g f a packages → AreRead g f b packages
  read_on f a b packages only are = zip_through (StaysStore g) (IsRead g f) (IsRead g f)
      (λ x y p stays reads is_open. subst (Reads f p) (sym (stays.holds is_open).now_is)
      (reads (stays.was_open is_open))) a b packages only are

  clean_each : (a b : List (Held S)) → AreOnlyRead g a b → AllByRecursion Cleanly b → AllByRecursion Cleanly a
  clean_each [] [] only each = tt
  clean_each [] (y ∷ ys) only each = absurd only
  clean_each (x ∷ xs) [] only each = absurd only
  clean_each (x ∷ xs) (y ∷ ys) only each = (
    (let stays : StaysStore g x y = only.0 in let clean :
        HasCleanDisk (state g y) = each.0 in omega (arith, stays.survives.clean, clean)),
    clean_each xs ys only.1
        each.1,
  )

  -- disks that are clean were clean
  pub clean_back : (a b : List (Held S)) → AreOnlyRead g a b → AreClean g b → AreClean g a
  clean_back a b only clean = All-from_recursion Cleanly a (clean_each a b only (recursion_from_All Cleanly b clean))

  pub read_then : (a b c : List (Held S)) → AreOnlyRead g a b → AreOnlyRead g b c → AreOnlyRead g a c
  read_then [] [] [] one two = tt
  read_then [] [] (z ∷ zs) one two = absurd two
  read_then [] (y ∷ ys) zs one two = absurd one
  read_then (x ∷ xs) [] zs one two = absurd one
  read_then (x ∷ xs) (y ∷ ys) [] one two = absurd two
  read_then (x ∷ xs) (y ∷ ys) (z ∷ zs) one two = (stays_then one.0 two.0, read_then xs ys zs one.1 two.1)

  -- two questions that were answered
  pub asks_both : {X Y Z E E' E'' : Type 0} (One : List Package → X → Type 0) (Two : List Package → Y → Type 0)
      {Answer : List Package → Z → Type 0} {old mid new : List (Held S)} {r : Result X E} {q : Result Y E'} {x : X}
      {y : Y} {z : Z} → r ≡ Ok x → q ≡ Ok y
      → ((packages : List Package) → One packages x → Two packages y → Answer packages z)
      → AsksStores g {X = X} {E = E} One old mid r → AsksStores g {X = Y} {E = E'} Two mid new q
      → AsksStores g {X = Z} {E = E''} Answer old new (Ok z)
  asks_both {X} {Y} {Z} {E} {E'} {E''} One Two {Answer} {old} {mid} {new} {r} {q} {x} {y} {z} is is' so first next =
      let one : AsksStores g {X = X} {E = E} One old mid (Ok x) =
      subst (AsksStores g {X = X} {E = E} One old mid) is first in
      let two : AsksStores g {X = Y} {E = E'} Two mid new (Ok y) =
      subst (AsksStores g {X = Y} {E = E'} Two mid new) is' next in
      record {
        rests = two.rests;
        read = read_then old mid new one.read two.read;
        told = λ clean f packages are. so packages (one.told (clean_back mid new two.read clean) f packages are)
            (two.told clean f packages (read_on f old mid packages one.read are));
      }

  -- and where nothing could be made of the two, the stores were only read
  pub asks_cut : {X Y Z E E' E'' : Type 0} (One : List Package → X → Type 0) (Two : List Package → Y → Type 0)
      {Answer : List Package → Z → Type 0} {old mid new : List (Held S)} {r : Result X E} {q : Result Y E'}
      (e : Result Z E'') → IsErr e
      → AsksStores g {X = X} {E = E} One old mid r → AsksStores g {X = Y} {E = E'} Two mid new q
      → AsksStores g {X = Z} {E = E''} Answer old new e
  asks_cut One Two {Answer} {old} {mid} {new} e failed first next =
      asks_failed e failed next.rests (read_then old mid new first.read next.read)

  -- what needs no question
  pub asks_still : {X E : Type 0} {Answer : List Package → X → Type 0} {old : List (Held S)} {x : X} → Shuts g
      → Settles g → AreAtRest g old → ((packages : List Package) → Answer packages x)
      → AsksStores g {X = X} {E = E} Answer old old (Ok x)
  asks_still {X} {E} {Answer} {old} shuts settles rests so =
      record { rests = rests; read = all_still shuts settles old rests; told = λ clean f packages are. so packages }

  module _ {A : Type 0} (Tells : Package → A → Type 0) where
    -- the answer is right of each package that the store is of
    abbrev pub Answered : Held S → A → Type 0
    Answered h x = (f : Frame) (p : Package) → IsRead g f h p → Tells p x

    -- the first n were asked, and this is what they answered
    pub record Asked (old now : List (Held S)) (n : ℕ) (answers : List A) : Type 0 where
      pub done : List (Held S)
      pub long : length done ≡ n
      pub now_is : now ≡ done ++ drop n old
      pub read : AllZip (StaysStore g) (take n old) done
      pub rests : AreAtRest g now
      pub told : AreClean g done → AllZip Answered (take n old) answers

    pub asked_none : (old : List (Held S)) → AreAtRest g old → Asked old old 0 []
    asked_none old rests = record {
      done = [];
      long = refl;
      now_is = refl;
      read = tt;
      rests = rests;
      told = λ clean. tt;
    }

    module _ {E : Type 0} (old now new : List (Held S)) (n : ℕ) (answers : List A) (r : Result A E)
        (within : n < length old) (it : Asked old now n answers) (look : AsksAt g {E = E} Tells now new n r) where
      abbrev here : Held S
      here = get_or old n look.was

      behind : drop n old ≡ here ∷ drop (suc n) old
      behind = drop-cons old n look.was within

      now_so : now ≡ it.done ++ here ∷ drop (suc n) old
      now_so = it.now_is ∙ ap (λ l. it.done ++ l) behind

      was_is : look.was ≡ here
      was_is = some_once (slice_get now n) look.was here look.place
          (ap (λ l. slice_get l n) now_so ∙ ap (slice_get (it.done ++ here ∷ drop (suc n) old)) (sym it.long)
          ∙ at_seam it.done here (drop (suc n) old))

      new_so : new ≡ it.done ++ look.last ∷ drop (suc n) old
      new_so = look.others ∙ ap (λ l. slice_set l n look.last) now_so
          ∙ ap (λ k. slice_set (it.done ++ here ∷ drop (suc n) old) k look.last) (sym it.long)
          ∙ set-append_seam it.done here (drop (suc n) old) look.last

      stays : StaysStore g here look.last
      stays = subst (λ h. StaysStore g h look.last) was_is (looks_stays look.looked)

      -- one more was taken
      taken : take (n + 1) old ≡ take n old ++ here ∷ []
      taken = ap (λ k. take k old) (let e : n + 1 ≡ suc n = omega arith in e) ∙ take-suc old n look.was within

      pub rests_new : AreAtRest g new
      rests_new = subst (AreAtRest g) (sym look.others) (All-set Resting now n look.last stays.rests it.rests)

      done_read : AllZip (StaysStore g) (take (n + 1) old) (it.done ++ look.last ∷ [])
      done_read = subst (λ l. AllZip (StaysStore g) l (it.done ++ look.last ∷ [])) (sym taken)
          (zip_last (StaysStore g) (take n old) it.done here look.last it.read stays)

      front : new ≡ (it.done ++ look.last ∷ []) ++ drop (n + 1) old
      front = new_so ∙ sym (joined it.done look.last (drop (suc n) old))
          ∙ ap (λ k. (it.done ++ look.last ∷ []) ++ drop k old) (let e : suc n ≡ n + 1 = omega arith in e)

      -- one more answered
      pub asked_more : (x : A) → r ≡ Ok x → Asked old new (n + 1) (answers ++ x ∷ [])
      asked_more x is = record {
        done = it.done ++ look.last ∷ [];
        long = omega (arith, long_snoc it.done look.last, it.long);
        now_is = front;
        read = done_read;
        rests = rests_new;
        told = λ clean.
            let each : AllByRecursion Cleanly (it.done ++ look.last ∷ []) =
            recursion_from_All Cleanly (it.done ++ look.last ∷ []) clean in
            let two : AllByRecursion Cleanly it.done × AllByRecursion Cleanly (look.last ∷ []) =
            all_back Cleanly it.done (look.last ∷ []) each in
            subst (λ l. AllZip Answered l (answers ++ x ∷ [])) (sym taken)
            (zip_last Answered (take n old) answers here x (it.told (All-from_recursion Cleanly it.done two.0))
            (subst (λ h. Answered h x) was_is (one two.1.0)));
      }
        where
          one : Cleanly look.last → Answered look.was x
          one clean f p reads =
              let looks : Looks (Sees (λ (f : Frame) (p : Package) (x : A). Tells p x)) (state g look.was)
              (state g look.last) (Ok x) = subst (Looks {X = A} {E = E} (Sees (λ f p x. Tells p x))
              (state g look.was) (state g look.last)) is look.looked in
              let told = looks.done clean in
              told.1.1 f p (reads (looks.was_open told.0))

      -- and where it failed, all were only read
      pub read_failed : Shuts g → Settles g → AreOnlyRead g old new
      read_failed shuts settles =
          let rest : AllByRecursion Resting (drop (n + 1) old) =
          (all_back Resting (it.done ++ look.last ∷ []) (drop (n + 1) old)
          (recursion_from_All Resting ((it.done ++ look.last ∷ []) ++ drop (n + 1) old)
          (subst (AreAtRest g) front rests_new))).1 in
          subst (λ l. AreOnlyRead g l new) (take_drop old (n + 1))
          (subst (AllZip (StaysStore g) (take (n + 1) old ++ drop (n + 1) old)) (sym front)
          (zip_append (StaysStore g) (take (n + 1) old) (drop (n + 1) old) (it.done ++ look.last ∷ [])
          (drop (n + 1) old) done_read
          (zip_itself Resting (StaysStore g) (λ h rests. still shuts settles h rests) (drop (n + 1) old) rest)))

      pub asks_broken : {Y E' : Type 0} (Answer : List Package → Y → Type 0) → Shuts g → Settles g
          → (q : Result Y E')
          → IsErr q → AsksStores g {X = Y} {E = E'} Answer old new q
      asks_broken Answer shuts settles q failed = asks_failed q failed rests_new (read_failed shuts settles)

    -- all were asked
    module _ (old now : List (Held S)) (n : ℕ) (answers : List A) (past : length old ≤ n)
        (it : Asked old now n answers) where
      all_done : now ≡ it.done
      all_done = it.now_is ∙ ap (λ l. it.done ++ l) (past_none old n past) ∙ append-nil it.done

      all_read : AreOnlyRead g old now
      all_read = subst (AllZip (StaysStore g) old) (sym all_done)
          (subst (λ l. AllZip (StaysStore g) l it.done) (take_all n old past) it.read)

      pub asks_all : {X E : Type 0} (Answer : List Package → X → Type 0) (x : X)
          → ((packages : List Package) → AllZip Tells packages answers → Answer packages x)
          → AsksStores g {X = X} {E = E} Answer old now (Ok x)
      asks_all Answer x so = record {
        rests = it.rests;
        read = all_read;
        told = λ clean f packages are.
            let each : AllZip Answered (take n old) answers = it.told (subst (AreClean g) all_done clean) in
            so packages (zip_through (IsRead g f) Answered Tells (λ h p x reads told. told f p reads) old packages
            answers are (subst (λ l. AllZip Answered l answers) (take_all n old past) each));
      }
