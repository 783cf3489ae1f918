-- Lists to which one element more has come at the end.
use Rattle.std.proofs.Common.{◌≡◌, ℕ, zero, suc, ◌+◌, List, [], ◌∷◌, ◌++◌, length, Bool, true}
use Rattle.std.proofs.Common.{false, cond, Some}
use Rattle.std.proofs.Common.{None, slice_get, refl, ap, ◌∙◌, arith}
use Rattle.std.specs.Prelude.{find}
use Rattle.std.specs.List.{position_from, AllByRecursion}

module _ {X : Type 0} (p : X → Bool) where
  -- what was found is found
  pub position_left : (n at : ℕ) (xs ys : List X) → position_from p n xs ≡ Some at
      → position_from p n (xs ++ ys) ≡ Some at
  position_left n at [] ys h = absurd (let e = h in cc)
  position_left n at (x ∷ xs) ys h = one (p x) h (position_left (n + 1) at xs ys)
    where
      one : (b : Bool) → cond b (Some n) (position_from p (n + 1) xs) ≡ Some at
          → (position_from p (n + 1) xs ≡ Some at → position_from p (n + 1) (xs ++ ys) ≡ Some at)
          → cond b (Some n) (position_from p (n + 1) (xs ++ ys)) ≡ Some at
      one true h more = h
      one false h more = more h

  -- the new one is found, where no other was
  pub position_last : (n : ℕ) (xs : List X) (y : X) → position_from p n xs ≡ None → p y ≡ true
      → position_from p n (xs ++ y ∷ []) ≡ Some (n + length xs)
  position_last n [] y h is = rw is (ap Some (omega arith))
  position_last n (x ∷ xs) y h is = one (p x) h (λ none. position_last (n + 1) xs y none is)
    where
      one : (b : Bool) → cond b (Some n) (position_from p (n + 1) xs) ≡ None
          → (position_from p (n + 1) xs ≡ None → position_from p (n + 1) (xs ++ y ∷ [])
          ≡ Some (n + 1 + length xs))
          → cond b (Some n) (position_from p (n + 1) (xs ++ y ∷ [])) ≡ Some (n + length (x ∷ xs))
      one true h more = absurd (let e = h in cc)
      one false h more = more h ∙ ap Some (omega arith)

  -- nothing is found, where the new one does not pass either
  pub position_none : (n : ℕ) (xs : List X) (y : X) → position_from p n xs ≡ None → p y ≡ false
      → position_from p n (xs ++ y ∷ []) ≡ None
  position_none n [] y h is = rw is refl
  position_none n (x ∷ xs) y h is = one (p x) h (λ none. position_none (n + 1) xs y none is)
    where
      one : (b : Bool) → cond b (Some n) (position_from p (n + 1) xs) ≡ None
          → (position_from p (n + 1) xs ≡ None → position_from p (n + 1) (xs ++ y ∷ []) ≡ None)
          → cond b (Some n) (position_from p (n + 1) (xs ++ y ∷ [])) ≡ None
      one true h more = absurd (let e = h in cc)
      one false h more = more h

  pub find_none : (xs : List X) → AllByRecursion (λ x. p x ≡ false) xs → find p xs ≡ None
  find_none [] h = refl
  find_none (x ∷ xs) h = rw h.0 (find_none xs h.1)

pub slice_left : {X : Type 0} (at : ℕ) (x : X) (xs ys : List X) → slice_get xs at ≡ Some x
    → slice_get (xs ++ ys) at ≡ Some x
slice_left at x [] ys h = absurd cc
slice_left zero x (y ∷ xs) ys h = h
slice_left (suc at) x (y ∷ xs) ys h = slice_left at x xs ys h

pub slice_last : {X : Type 0} (xs : List X) (y : X) → slice_get (xs ++ y ∷ []) (length xs) ≡ Some y
slice_last [] y = refl
slice_last (x ∷ xs) y = slice_last xs y
