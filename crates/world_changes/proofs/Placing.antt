-- Two lists, place by place: one element changes, comes or goes in both.
use Rattle.std.specs.Prelude.{◌≡◌, ℕ, zero, suc, List, [], ◌∷◌, Some, slice_get, slice_set, refl}
use Rattle.std.proofs.Common.{subst}
use Rattle.std.specs.List.{AllZip, insert, remove}

-- the place of one more
one_more : (k : ℕ) (at : ℕ) → suc k ≡ suc at → k ≡ at
one_more k at same = cc

-- what goes together at all places but one
zip_all : {A B : Type 0} (R R' : A → B → Type 0) (xs : List A) (ys : List B)
    → ((k : ℕ) (x : A) (y : B) → slice_get ys k ≡ Some y → R x y → R' x y) → AllZip R xs ys
    → AllZip R' xs ys
zip_all R R' [] [] f zip = tt
zip_all R R' [] (y ∷ ys) f zip = absurd zip
zip_all R R' (x ∷ xs) [] f zip = absurd zip
zip_all R R' (x ∷ xs) (y ∷ ys) f zip = (
  f 0 x y refl zip.0,
  zip_all R R' xs ys (λ k a b place. f (suc k) a b place)
      zip.1,
)

-- one of each is set
pub zip_turn : {A B : Type 0} (R R' : A → B → Type 0) (xs : List A) (ys : List B) (at : ℕ) (was now : A)
    (p after : B)
    → slice_get xs at ≡ Some was → slice_get ys at ≡ Some p → (R was p → R' now after)
    → ((k : ℕ) (x : A) (y : B) → slice_get ys k ≡ Some y → ¬ (k ≡ at) → R x y → R' x y)
    → AllZip R xs ys
    → AllZip R' (slice_set xs at now) (slice_set ys at after)
zip_turn R R' [] ys at was now p after at_x at_y here others zip = absurd (let e = at_x in cc)
zip_turn R R' (x ∷ xs) [] at was now p after at_x at_y here others zip = absurd zip
zip_turn R R' (x ∷ xs) (y ∷ ys) zero was now p after at_x at_y here others zip =
    let same_x : x ≡ was = cc in
    let same_y : y ≡ p = cc in (
      here (subst (λ b. R was b) same_y (subst (λ a. R a y) same_x zip.0)),
      zip_all R R' xs ys
          (λ k a b place. others (suc k) a b place (λ e. let f = e in cc)) zip.1,
    )
zip_turn R R' (x ∷ xs) (y ∷ ys) (suc at) was now p after at_x at_y here others zip = (
  others 0 x y refl (λ e. let f = e in cc) zip.0,
  zip_turn R R' xs ys at was now p after at_x at_y here
      (λ k a b place other. others (suc k) a b place (λ e. other (one_more k at e))) zip.1,
)

-- one comes to each
pub zip_insert : {A B : Type 0} (R : A → B → Type 0) (xs : List A) (ys : List B) (at : ℕ) (x : A) (y : B)
    → R x y
    → AllZip R xs ys → AllZip R (insert xs at x) (insert ys at y)
zip_insert R [] [] zero x y both zip = (both, tt)
zip_insert R [] [] (suc at) x y both zip = (both, tt)
zip_insert R [] (b ∷ ys) at x y both zip = absurd zip
zip_insert R (a ∷ xs) [] at x y both zip = absurd zip
zip_insert R (a ∷ xs) (b ∷ ys) zero x y both zip = (both, zip)
zip_insert R (a ∷ xs) (b ∷ ys) (suc at) x y both zip = (zip.0, zip_insert R xs ys at x y both zip.1)

-- one goes from each
pub zip_remove : {A B : Type 0} (R : A → B → Type 0) (xs : List A) (ys : List B) (at : ℕ) → AllZip R xs ys
    → AllZip R (remove xs at) (remove ys at)
zip_remove R [] [] zero zip = tt
zip_remove R [] [] (suc at) zip = tt
zip_remove R [] (b ∷ ys) at zip = absurd zip
zip_remove R (a ∷ xs) [] at zip = absurd zip
zip_remove R (a ∷ xs) (b ∷ ys) zero zip = zip.1
zip_remove R (a ∷ xs) (b ∷ ys) (suc at) zip = (zip.0, zip_remove R xs ys at zip.1)

-- the element that goes
pub zip_removed : {A B : Type 0} (R : A → B → Type 0) (xs : List A) (ys : List B) (at : ℕ) (x : A) (y : B)
    → slice_get xs at ≡ Some x → slice_get ys at ≡ Some y → AllZip R xs ys → R x y
zip_removed R [] ys at x y at_x at_y zip = absurd (let e = at_x in cc)
zip_removed R (a ∷ xs) [] at x y at_x at_y zip = absurd zip
zip_removed R (a ∷ xs) (b ∷ ys) zero x y at_x at_y zip =
    let same_x : a ≡ x = cc in
    let same_y : b ≡ y = cc in
    subst (λ c. R x c) same_y (subst (λ c. R c b) same_x zip.0)
zip_removed R (a ∷ xs) (b ∷ ys) (suc at) x y at_x at_y zip = zip_removed R xs ys at x y at_x at_y zip.1
