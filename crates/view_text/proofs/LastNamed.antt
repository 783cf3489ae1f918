-- The target of the last receipt that passes, as receipts come one after the other.
use Rattle.std.proofs.Common.{◌≡◌, ◌∙◌, ℕ, List, [], ◌∷◌, ◌++◌, refl, ap}
use Rattle.std.specs.Prelude.{Bool, true, false, Some, filter, if◌then◌else◌}
use Rattle.std.specs.Option.{option_and_then}
use Rattle.std.proofs.lemmas.List.Elements.{filter-append}
use Rattle.std.proofs.lemmas.List.{append-nil}
use Rattle.sheet_types.specs.Balance.{names_identity}
use Rattle.sheet_types.specs.Ordered.{last_or, last_of, last_where}
use Rattle.sheet_types.specs.declared.receipt.Receipt.{Receipt}
use Rattle.view_text.specs.Ways.{place_by}

last_or-snoc : {X : Type 0} (x y : X) (xs : List X) → last_or x (xs ++ y ∷ []) ≡ y
last_or-snoc x y [] = refl
last_or-snoc x y (z ∷ xs) = last_or-snoc z y xs

last_of-snoc : {X : Type 0} (y : X) (xs : List X) → last_of (xs ++ y ∷ []) ≡ Some y
last_of-snoc y [] = refl
last_of-snoc y (x ∷ xs) = ap Some (last_or-snoc x y xs)

-- one that passes is the last
pub last_passes : {X : Type 0} (p : X → Bool) (xs : List X) (x : X) → p x ≡ true
    → last_where p (xs ++ x ∷ []) ≡ Some x
last_passes p xs x e = ap last_of (filter-append p xs (x ∷ [])
    ∙ ap (λ b. filter p xs ++ (if b then x ∷ [] else [])) e) ∙ last_of-snoc x (filter p xs)

-- one that does not leaves the last as it was
pub last_stays : {X : Type 0} (p : X → Bool) (xs : List X) (x : X) → p x ≡ false
    → last_where p (xs ++ x ∷ []) ≡ last_where p xs
last_stays p xs x e = ap last_of (filter-append p xs (x ∷ [])
    ∙ ap (λ b. filter p xs ++ (if b then x ∷ [] else [])) e
    ∙ append-nil (filter p xs))

pub place_moves : (id : List ℕ) (rs : List Receipt) (r : Receipt) → names_identity id r ≡ true
    → place_by (rs ++ r ∷ []) id ≡ r.target
place_moves id rs r e = ap (option_and_then (λ x. x.target)) (last_passes (names_identity id) rs r e)

pub place_stays : (id : List ℕ) (rs : List Receipt) (r : Receipt) → names_identity id r ≡ false
    → place_by (rs ++ r ∷ []) id ≡ place_by rs id
place_stays id rs r e = ap (option_and_then (λ x. x.target)) (last_stays (names_identity id) rs r e)
