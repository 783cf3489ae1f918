-- Lists that were walked through to a place: what is done, and behind it what is left.
use Rattle.std.specs.Prelude.{◌≡◌, ℕ, zero, suc, ◌≤◌, List, [], ◌∷◌, ◌++◌, length, refl, Some, slice_get}
use Rattle.std.specs.List.{AllByRecursion}
use Rattle.std.proofs.Common.{ap, arith, drop, take}

pub take_drop : {X : Type 0} (xs : List X) (n : ℕ) → take n xs ++ drop n xs ≡ xs
take_drop xs zero = refl
take_drop [] (suc n) = refl
take_drop (x ∷ xs) (suc n) = ap (λ ys. x ∷ ys) (take_drop xs n)

pub past_none : {X : Type 0} (xs : List X) (n : ℕ) → length xs ≤ n → drop n xs ≡ []
past_none [] zero le = refl
past_none [] (suc n) le = refl
past_none (x ∷ xs) zero le = absurd (omega (arith, le))
past_none (x ∷ xs) (suc n) le = past_none xs n (omega (arith, le))

-- the first of those that are left
pub at_seam : {X : Type 0} (xs : List X) (y : X) (ys : List X) → slice_get (xs ++ y ∷ ys) (length xs) ≡ Some y
at_seam [] y ys = refl
at_seam (x ∷ xs) y ys = at_seam xs y ys

pub joined : {X : Type 0} (xs : List X) (x : X) (ys : List X) → (xs ++ x ∷ []) ++ ys ≡ xs ++ x ∷ ys
joined [] x ys = refl
joined (z ∷ xs) x ys = ap (λ zs. z ∷ zs) (joined xs x ys)

pub long_snoc : {X : Type 0} (xs : List X) (y : X) → length (xs ++ y ∷ []) ≡ suc (length xs)
long_snoc [] y = refl
long_snoc (z ∷ xs) y = ap suc (long_snoc xs y)

pub all_back : {X : Type 0} (P : X → Type 0) (xs ys : List X) → AllByRecursion P (xs ++ ys) → AllByRecursion P xs
    × AllByRecursion P ys
all_back P [] ys each = (tt, each)
all_back P (x ∷ xs) ys each = let more : AllByRecursion P xs × AllByRecursion P ys =
    all_back P xs ys each.1 in ((each.0, more.0), more.1)
