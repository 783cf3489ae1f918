-- The free keys below a bound, gathered from the least up.
use Rattle.std.proofs.Common.{◌≡◌, ℕ, ℤ, pos, ◌≤◌, ◌<◌, ◌≤ℤ◌, ◌<ℤ◌, ◌+ℤ◌}
use Rattle.std.proofs.Common.{List, [], ◌∷◌, ◌++◌, Bool, true, false}
use Rattle.std.proofs.Common.{◌||◌, ◌⊎◌, inl, inr, ⊎_elim, refl, sym, ap, ◌∙◌, subst, arith, length}
use Rattle.std.proofs.Common.{FitsSigned, w64}
use Rattle.std.proofs.Common.{to_z, of_z, to_z-of_z}
use Rattle.std.proofs.lemmas.Bool.{true≢false, and_parts, and_from, false_from_ne_true}
use Rattle.std.proofs.lemmas.Cmp.{int_eq_equiv}
use Rattle.std.proofs.lemmas.Int.{ints}
use Rattle.std.proofs.lemmas.List.Folds.{list_any-append}
use Rattle.std.proofs.lemmas.Map.Keys.{IsDistinct-push}
use Rattle.std.proofs.lemmas.Map.Made.{length-le_from_is_member}
use Rattle.std.specs.Cmp.{signed_Decides}
use Rattle.std.specs.List.{list_any, AllByRecursion, IsDistinct}
use Rattle.std.specs.Ordering.{int_eq, int_cmp}
use Rattle.std.specs.Prelude.{int_le, int_lt}
use Rattle.sheet_types.specs.Matrix.{is_within}
use Rattle.sheet_types.proofs.Basics.{or-true, or-false}
use Rattle.sheet_types.proofs.Every.{All-weaker, All-snoc, none_any}
use Rattle.sheet_types.proofs.Same.{All-In, any_at}
use Rattle.renumbering.specs.Keys.{AreFree, IsFree}

-- the keys are free, and are all that are free below the next one
pub record AreLeast (used : List ℤ) (next : ℤ) (keys : List ℤ) : Type 0 where
  pub from : pos 1 ≤ℤ next
  pub below : AllByRecursion (λ k. k <ℤ next) keys
  pub free : AreFree used keys
  pub all : (k : ℤ) → IsFree used k → k <ℤ next → list_any (int_eq k) keys ≡ true

same_key : (k : ℤ) → int_eq k k ≡ true
same_key k = (signed_Decides k k).1 refl

other_key : (k y : ℤ) → y <ℤ k → int_eq k y ≡ false
other_key k y less = false_from_ne_true (int_eq k y) (λ same. let none : y <ℤ y =
    subst (λ z. y <ℤ z) ((signed_Decides k y).0 same) less in omega (arith, ints))

from_one : (used : List ℤ) (k : ℤ) → IsFree used k → int_le (pos 1) k ≡ true
from_one used k free = (and_parts (int_le (pos 1) k) (int_le k (pos 1000000)) free.0).0

-- a key below the next is below this or is this
below_or_same : (q k : ℤ) → q <ℤ (k +ℤ pos 1) → (q <ℤ k) ⊎ (q ≡ k)
below_or_same q k less = elim (int_lt q k) as (λ v. int_lt q k ≡ v → (q <ℤ k) ⊎ (q ≡ k))
    [ true ↦ λ low. inl (omega (arith, ints)) | false ↦ λ high. inr (omega (arith, ints)) ] refl

pub least_none : (used : List ℤ) → AreLeast used (pos 1) []
unfolding IsDistinct
least_none used = record {
  from = omega (arith, ints);
  below = tt;
  free = record { distinct = tt; free = tt };
  all = λ k free less. let from = from_one used k free in let none : ⊥ = omega (arith, ints) in absurd none;
}

pub least_more : (used keys : List ℤ) (k : ℤ) → AreLeast used k keys → int_le k (pos 1000000) ≡ true
    → list_any (int_eq k) used ≡ false → AreLeast used (k +ℤ pos 1) (keys ++ k ∷ [])
least_more used keys k it most unused = record {
  from = let low = it.from in omega (arith, ints);
  below = All-snoc (λ y. y <ℤ (k +ℤ pos 1)) keys k (All-weaker (λ y. y <ℤ k) (λ y. y <ℤ (k +ℤ pos 1))
      (λ y less. omega (arith, ints)) keys it.below) (omega (arith, ints));
  free = record {
    distinct = IsDistinct-push int_eq_equiv keys k it.free.distinct
        (none_any (int_eq k) keys (All-weaker (λ y. y <ℤ k) (λ y. int_eq k y ≡ false)
        (λ y less. other_key k y less)
        keys it.below));
    free = All-snoc (IsFree used) keys k it.free.free (
      and_from (int_le (pos 1) k) (int_le k (pos 1000000))
          (let low = it.from in grind (arith, ints)) most,
      unused,
    );
  };
  all = λ q free less. list_any-append (int_eq q) keys (k ∷ []) ∙ ⊎_elim
      (λ low. ap (λ b. b || (int_eq q k || false)) (it.all q free low))
      (λ here. ap (λ b. list_any (int_eq q) keys || (b || false)) (ap (int_eq q) (sym here) ∙ same_key q)
      ∙ or-true (list_any (int_eq q) keys))
      (below_or_same q k less);
}

pub least_same : (used keys : List ℤ) (k : ℤ) → AreLeast used k keys → list_any (int_eq k) used ≡ true
    → AreLeast used (k +ℤ pos 1) keys
least_same used keys k it is_used = record {
  from = let low = it.from in omega (arith, ints);
  below = All-weaker (λ y. y <ℤ k) (λ y. y <ℤ (k +ℤ pos 1)) (λ y less. omega (arith, ints)) keys it.below;
  free = it.free;
  all = λ q free less. ⊎_elim (λ low. it.all q free low) (λ here. absurd
      (true≢false (sym is_used ∙ ap (λ x. list_any (int_eq x) used) (sym here) ∙ free.1)))
      (below_or_same q k less);
}

-- the next key, as it is counted
pub next_key : (k : ℤ) → pos 1 ≤ℤ k → int_le k (pos 1000000) ≡ true
    → k +ℤ pos 1 ≡ to_z w64 (of_z w64 (k +ℤ pos 1))
next_key k low high = let fits : FitsSigned w64 (k +ℤ pos 1) = omega (arith, ints) in sym (to_z-of_z fits)

-- an element of free keys is free
one_is_free : (used keys : List ℤ) (q : ℤ) → AllByRecursion (IsFree used) keys
    → list_any (int_eq q) keys ≡ true
    → IsFree used q
one_is_free used keys q free there = let at = any_at (int_eq q) keys there in subst (IsFree used)
    (sym ((signed_Decides q at.0).0 at.2)) (All-In (IsFree used) at.0 keys free at.1)

-- where all free keys are too few, no free keys are enough
pub too_few : (used least : List ℤ) (n : ℕ) → length least < n
    → ((k : ℤ) → IsFree used k → list_any (int_eq k) least ≡ true) → (keys : List ℤ) → AreFree used keys
    → length keys < n
too_few used least n few all keys free =
    let most : length keys ≤ length least = length-le_from_is_member int_eq_equiv keys least free.distinct
    (λ q there. all q (one_is_free used keys q free.free there)) in omega arith
