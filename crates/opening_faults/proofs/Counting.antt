-- How many stores have a key, told one after the other.
use Rattle.std.specs.Prelude.{◌≡◌, ℕ, zero, suc, ◌+◌, Bool, true, false, cond, List, [], ◌∷◌}
use Rattle.std.specs.Prelude.{◌++◌, Option, Some}
use Rattle.std.specs.Prelude.{bytes_eq, count_by, refl}
use Rattle.std.proofs.Common.{sym, ap, ◌∙◌, arith}
use Rattle.std.specs.Ordering.{nat_cmp}
use Rattle.std.specs.Cmp.Lexicographic.{slice_cmp}
use Rattle.std.specs.BTreeMap.{BTreeMap, get, Updates}
use Rattle.std.proofs.lemmas.Slice.Eq.{bytes_eq-Decides}
use Rattle.sheet_types.proofs.Sums.{count-cons}
use Rattle.sheet_ledger.proofs.Maps.{at_key}
use Rattle.opening_faults.specs.Copies.{told, told_more}
use Rattle.opening_faults.specs.declared.copies.Copies.{Copies}
use Rattle.opening_faults.specs.declared.copies.Copies.TheVariants.{More}

told_two : (n : ℕ) → Some More ≡ Some (told_more (told (suc n)))
told_two zero = refl
told_two (suc n) = refl

told_next : (n m : ℕ) → m ≡ suc n → told m ≡ Some (told_more (told n))
told_next zero m e = ap told e
told_next (suc n) m e = ap told e ∙ told_two n

count_snoc : {X : Type 0} (p : X → Bool) (xs : List X) (x : X) (b : Bool) → p x ≡ b
    → count_by p (xs ++ x ∷ []) ≡ count_by p xs + cond b 1 0
count_snoc p [] x b e = let h : count_by p (x ∷ []) ≡ cond b 1 0 + count_by p [] =
    count-cons p x [] b e in omega (arith, h)
count_snoc p (y ∷ ys) x b e =
    let more : count_by p (ys ++ x ∷ []) ≡ count_by p ys + cond b 1 0 = count_snoc p ys x b e in
    let new : count_by p (y ∷ (ys ++ x ∷ [])) ≡ cond (p y) 1 0 + count_by p (ys ++ x ∷ []) =
    count-cons p y (ys ++ x ∷ []) (p y) refl in
    let old : count_by p (y ∷ ys) ≡ cond (p y) 1 0 + count_by p ys = count-cons p y ys (p y) refl in
    omega (arith, more, new, old)

-- what is told of those so far, with one more
pub told_of_more : {X : Type 0} (p : X → Bool) (mid new : Option Copies) (xs more : List X) (x : X)
    → more ≡ xs ++ x ∷ [] → mid ≡ told (count_by p xs) → new ≡ cond (p x) (Some (told_more mid)) mid
    → new ≡ told (count_by p more)
told_of_more p mid new xs more x is was step =
    step ∙ ap (λ o. cond (p x) (Some (told_more o)) o) was
    ∙ elim (p x) as (λ v. p x ≡ v → cond v (Some (told_more (told (count_by p xs)))) (told (count_by p xs))
    ≡ told (count_by p (xs ++ x ∷ []))) [
      | true ↦ λ e. sym (told_next (count_by p xs) (count_by p (xs ++ x ∷ []))
          (let h : count_by p (xs ++ x ∷ []) ≡ count_by p xs + 1 = count_snoc p xs x true e in omega (arith, h)))
      | false ↦ λ e. ap told (let h : count_by p (xs ++ x ∷ []) ≡ count_by p xs + 0 =
          count_snoc p xs x false e in omega (arith, h))
    ] refl
    ∙ ap (λ ys. told (count_by p ys)) (sym is)

-- a key that is counted once more
pub key_counted : (m n : BTreeMap (List ℕ) Copies) (k : List ℕ) (more : Copies)
    → more ≡ told_more (get (slice_cmp nat_cmp) m k) → Updates (slice_cmp nat_cmp) m n k (Some more)
    → (q : List ℕ)
    → get (slice_cmp nat_cmp) n q ≡ cond (bytes_eq k q) (Some (told_more (get (slice_cmp nat_cmp) m q)))
    (get (slice_cmp nat_cmp) m q)
key_counted m n k more is h q =
    at_key m n k (Some more) h q
    ∙ elim (bytes_eq k q) as (λ v. bytes_eq k q ≡ v → cond v (Some more) (get (slice_cmp nat_cmp) m q)
    ≡ cond v (Some (told_more (get (slice_cmp nat_cmp) m q))) (get (slice_cmp nat_cmp) m q)) [
      | true ↦ λ e. ap Some is ∙ ap (λ x. Some (told_more (get (slice_cmp nat_cmp) m x)))
          ((bytes_eq-Decides k q).0 e)
      | false ↦ λ e. refl
    ] refl
