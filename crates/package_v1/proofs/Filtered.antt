-- Lists out of which some elements are taken.
use Rattle.std.proofs.Common.{◌≡◌, ℕ, zero, suc, ◌+◌, ◌≤◌, List, [], ◌∷◌, Bool, true, false}
use Rattle.std.proofs.Common.{cond, Some, slice_get}
use Rattle.std.proofs.Common.{refl, sym, ap, ◌∙◌, arith}
use Rattle.std.specs.Prelude.{find, filter}
use Rattle.std.specs.List.{position_from}

same_some : {A : Type 0} {a b : A} → Some a ≡ Some b → a ≡ b
same_some e = cc

module _ {X : Type 0} (p : X → Bool) where
  -- a place is counted from the first number
  position_low : (n i : ℕ) (xs : List X) → position_from p n xs ≡ Some i → n ≤ i
  position_low n i [] h = absurd (let e = h in cc)
  position_low n i (x ∷ xs) h = one (p x) h (position_low (n + 1) i xs)
    where
      one : (b : Bool) → cond b (Some n) (position_from p (n + 1) xs) ≡ Some i
          → (position_from p (n + 1) xs ≡ Some i → n + 1 ≤ i) → n ≤ i
      one true h more = let e : n ≡ i = same_some h in omega (arith, e)
      one false h more = omega (arith, more h)

  module _ (keep : X → Bool) where
    abbrev IsFirst : ℕ → X → List X → Type 0
    IsFirst m u xs = (j : ℕ) × (position_from p m xs ≡ Some (m + j)) × (slice_get xs j ≡ Some u)

    -- one more before it that does not pass
    later : (m : ℕ) (u x : X) (xs : List X) → p x ≡ false → IsFirst (m + 1) u xs → IsFirst m u (x ∷ xs)
    later m u x xs is (j, found, there) = (suc j, rw is (found ∙ ap Some (omega arith)), there)

    -- the first that passes stays the first, where it is kept
    pub first_kept : (n m k : ℕ) (u : X) (xs : List X) → position_from p n xs ≡ Some (n + k)
        → slice_get xs k ≡ Some u
        → keep u ≡ true → IsFirst m u (filter keep xs)
    first_kept n m k u [] h there kept = absurd (let e = h in cc)
    first_kept n m zero u (x ∷ xs) h there kept = one (p x) refl h
      where
        same : x ≡ u
        same = same_some there

        stays : keep x ≡ true
        stays = ap keep same ∙ kept

        one : (b : Bool) → p x ≡ b → cond b (Some n) (position_from p (n + 1) xs) ≡ Some (n + 0)
            → IsFirst m u (filter keep (x ∷ xs))
        one true is h = rw stays (0, rw is (ap Some (omega arith)), ap Some same)
        one false is h = absurd (let low = position_low (n + 1) (n + 0) xs h in omega (arith, low))
    first_kept n m (suc k) u (x ∷ xs) h there kept = one (p x) (keep x) refl refl h
        (λ i is. first_kept (n + 1) i k u xs is there kept)
      where
        one : (b c : Bool) → p x ≡ b → keep x ≡ c → cond b (Some n) (position_from p (n + 1) xs)
            ≡ Some (n + suc k)
            → ((i : ℕ) → position_from p (n + 1) xs ≡ Some (n + 1 + k) → IsFirst i u (filter keep xs))
            → IsFirst m u (filter keep (x ∷ xs))
        one true c is k_is h more = absurd (let e : n ≡ n + suc k = same_some h in omega (arith, e))
        one false true is k_is h more = rw k_is (later m u x (filter keep xs) is
            (more (m + 1) (h ∙ ap Some (omega arith))))
        one false false is k_is h more = rw k_is (more m (h ∙ ap Some (omega arith)))

    pub find_kept : (u : X) (xs : List X) → find p xs ≡ Some u → keep u ≡ true
        → find p (filter keep xs) ≡ Some u
    find_kept u [] h kept = absurd (let e = h in cc)
    find_kept u (x ∷ xs) h kept = one (p x) (keep x) refl refl h (λ found. find_kept u xs found kept)
      where
        one : (b c : Bool) → p x ≡ b → keep x ≡ c → cond b (Some x) (find p xs) ≡ Some u
            → (find p xs ≡ Some u → find p (filter keep xs) ≡ Some u)
            → find p (filter keep (x ∷ xs)) ≡ Some u
        one true true is k_is h more = rw (k_is, is) h
        one true false is k_is h more = absurd (let same : x ≡ u = same_some h in let e =
            sym k_is ∙ ap keep same ∙ kept in cc)
        one false true is k_is h more = rw (k_is, is) (more h)
        one false false is k_is h more = rw k_is (more h)
