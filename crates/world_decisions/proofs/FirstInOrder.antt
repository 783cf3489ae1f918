-- The first element that passes a test, in the order of a key, when one more comes behind the others.
use Rattle.std.specs.Prelude.{◌≡◌, ℕ, Bool, true, false, cond, List, [], ◌∷◌, ◌++◌, find, Option}
use Rattle.std.specs.Prelude.{Some, None, refl}
use Rattle.std.proofs.Common.{sym, ap, ◌∙◌}
use Rattle.std.proofs.lemmas.Bool.{true≢false, false_from_ne_true}
use Rattle.std.specs.List.{AllByRecursion}
use Rattle.sheet_types.specs.Ordered.{is_before, put, arranged}
use Rattle.sheet_types.proofs.Arranging.{IsInOrder, arranged_in_order, not_before_trans}
use Rattle.sheet_types.proofs.Basics.{before_trans, None≢Some, some_same}
use Rattle.sheet_types.proofs.Found.{All-found}
use Rattle.sheet_types.proofs.Order.{find_put_other}

module _ {X : Type 0} (key : X → List ℕ) where
  -- the first of two, the earlier of the list where neither key is less
  abbrev pub nearer : Option X → X → X
  nearer None x = x
  nearer (Some y) x = cond (is_before (key x) (key y)) x y

  -- the same with the one that stands in front
  abbrev nearer_front : X → Option X → X
  nearer_front x None = x
  nearer_front x (Some y) = cond (is_before (key y) (key x)) y x

  -- what comes in is found, unless one before it is
  find_put : (t : X → Bool) (x : X) (xs : List X) → IsInOrder key xs → t x ≡ true
      → find t (put key x xs) ≡ Some (nearer_front x (find t xs))
  find_put t x [] order passes = ap (λ b. cond b (Some x) None) passes
  find_put t x (y ∷ ys) order passes =
      elim (is_before (key y) (key x)) as (λ v. is_before (key y) (key x) ≡ v
      → find t (cond v (y ∷ put key x ys) (x ∷ y ∷ ys)) ≡ Some (nearer_front x (find t (y ∷ ys)))) [
        | true ↦ λ before. elim (t y) as (λ v. cond v (Some y) (find t (put key x ys))
            ≡ Some (nearer_front x (cond v (Some y) (find t ys)))) [
              | true ↦ ap (λ b. Some (cond b y x)) (sym before)
              | false ↦ find_put t x ys order.1 passes
            ]
        | false ↦ λ here. ap (λ b. cond b (Some x) (find t (y ∷ ys))) passes ∙ ap Some (sym (stays here))
      ] refl
    where
      -- none behind it is before it
      stays : is_before (key y) (key x) ≡ false → nearer_front x (find t (y ∷ ys)) ≡ x
      stays here = elim (find t (y ∷ ys)) as (λ o. find t (y ∷ ys) ≡ o → nearer_front x o ≡ x) [
        | None ↦ λ _. refl
        | Some z ↦ λ is. ap (λ b. cond b z x) (All-found (λ v. is_before (key v) (key x) ≡ false) t z
            (y ∷ ys) is
            (here, behind ys order.0)).0
      ] refl
        where
          behind : (zs : List X) → AllByRecursion (λ z. is_before (key z) (key y) ≡ false) zs
              → AllByRecursion (λ z. is_before (key z) (key x) ≡ false) zs
          behind [] all = tt
          behind (z ∷ zs) all = (not_before_trans (key x) (key y) (key z) here all.0, behind zs all.1)

  -- of three in a row it does not matter which two are looked at first
  in_a_row : (x : X) (found : Option X) (y : X) → nearer_front x (Some (nearer found y))
      ≡ nearer (Some (nearer_front x found)) y
  in_a_row x None y = refl
  in_a_row x (Some z) y = three (is_before (key y) (key z)) (is_before (key z) (key x)) (is_before (key y) (key x))
      refl refl refl
    where
      three : (a b c : Bool) → is_before (key y) (key z) ≡ a → is_before (key z) (key x) ≡ b
          → is_before (key y) (key x) ≡ c
          → nearer_front x (Some (cond a y z)) ≡ nearer (Some (cond b z x)) y
      three true true true yz zx yx = ap (λ v. cond v y x) yx ∙ sym (ap (λ v. cond v y z) yz)
      three true true false yz zx yx = absurd (true≢false (sym (before_trans (key y) (key z) (key x) yz zx) ∙ yx))
      three true false c yz zx yx = refl
      three false true c yz zx yx = ap (λ v. cond v z x) zx ∙ sym (ap (λ v. cond v y z) yz)
      three false false true yz zx yx = absurd (true≢false (sym yx
          ∙ not_before_trans (key x) (key z) (key y) zx yz))
      three false false false yz zx yx = ap (λ v. cond v z x) zx ∙ sym (ap (λ v. cond v y x) yx)

  -- the first of one more
  pub first_of_more : (t : X → Bool) (xs : List X) (x : X) → find t (arranged key (xs ++ x ∷ []))
      ≡ cond (t x) (Some (nearer (find t (arranged key xs)) x)) (find t (arranged key xs))
  first_of_more t [] x = refl
  first_of_more t (y ∷ ys) x =
      let more : List X = arranged key (ys ++ x ∷ []) in
      let rest : List X = arranged key ys in
      elim (t y) as (λ v. t y ≡ v → find t (put key y (arranged key (ys ++ x ∷ [])))
      ≡ cond (t x) (Some (nearer (find t (put key y (arranged key ys))) x))
      (find t (put key y (arranged key ys)))) [
        | true ↦ λ passes.
            find_put t y (arranged key (ys ++ x ∷ [])) (arranged_in_order key (ys ++ x ∷ [])) passes
            ∙ ap (λ o. Some (nearer_front y o)) (first_of_more t ys x)
            ∙ each (t x) (find t (arranged key ys))
            ∙ sym (ap (λ o. cond (t x) (Some (nearer o x)) o)
            (find_put t y (arranged key ys) (arranged_in_order key ys) passes))
        | false ↦ λ fails.
            find_put_other key t y (arranged key (ys ++ x ∷ [])) fails
            ∙ first_of_more t ys x
            ∙ sym (ap (λ o. cond (t x) (Some (nearer o x)) o) (find_put_other key t y (arranged key ys) fails))
      ] refl
    where
      each : (b : Bool) (found : Option X) → Some (nearer_front y (cond b (Some (nearer found x)) found))
          ≡ cond b (Some (nearer (Some (nearer_front y found)) x)) (Some (nearer_front y found))
      each true found = ap Some (in_a_row y found x)
      each false found = refl
