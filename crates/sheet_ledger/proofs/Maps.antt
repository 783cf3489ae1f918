-- Maps whose keys are bytes, as functions of the key.
use Rattle.std.specs.Prelude.{◌≡◌, ℕ, Bool, true, false, cond, not, ◌&&◌, ◌||◌, List, Option, Some}
use Rattle.std.specs.Prelude.{None, unwrap_or, bytes_eq, nat_lt, max, refl}
use Rattle.std.proofs.Common.{sym, ap, subst, ◌∙◌, arith}
use Rattle.std.specs.Option.{option_map_or}
use Rattle.std.specs.Ordering.{nat_cmp}
use Rattle.std.specs.Cmp.Lexicographic.{slice_cmp}
use Rattle.std.specs.BTreeMap.{BTreeMap, get, Updates}
use Rattle.std.specs.BTreeSet as set
use Rattle.std.specs.BTreeSet.{BTreeSet}
use Rattle.std.proofs.lemmas.Map.Text.{is_eq-slice_cmp}
use Rattle.std.proofs.lemmas.Slice.Eq.{bytes_eq-Decides}
use Rattle.std.proofs.lemmas.Bool.Decides.{nat_tests}
use Rattle.sheet_types.proofs.Basics.{bytes_eq_itself, or-false}

-- what a map has at each key once a key was set
pub at_key : {X : Type 0} (m n : BTreeMap (List ℕ) X) (k : List ℕ) (w : Option X)
    → Updates (slice_cmp nat_cmp) m n k w → (q : List ℕ) → get (slice_cmp nat_cmp) n q
    ≡ cond (bytes_eq k q) w (get (slice_cmp nat_cmp) m q)
at_key m n k w h q = h.0 q ∙ ap (λ b. cond b w (get (slice_cmp nat_cmp) m q)) (is_eq-slice_cmp k q)

-- whether a set has each key once a key was put in
pub in_set : (s t : BTreeSet (List ℕ)) (k : List ℕ) → set.Updates (slice_cmp nat_cmp) s t k true
    → (q : List ℕ) → set.contains (slice_cmp nat_cmp) t q ≡ (bytes_eq k q || set.contains (slice_cmp nat_cmp)
    s q)
in_set s t k h q = h.0 q ∙ ap (λ b. cond b true (set.contains (slice_cmp nat_cmp) s q)) (is_eq-slice_cmp k q)
    ∙ elim (bytes_eq k q) as (λ v. cond v true (set.contains (slice_cmp nat_cmp) s q)
    ≡ (v || set.contains (slice_cmp nat_cmp) s q)) [ true ↦ refl | false ↦ refl ]

-- the greater of two numbers is above a third where one of them is
lt_max : (n a b : ℕ) → nat_lt n (max a b) ≡ (nat_lt n a || nat_lt n b)
lt_max n a b = grind (arith, nat_tests)

lt_zero : (n : ℕ) → nat_lt n 0 ≡ false
lt_zero n = grind (arith, nat_tests)

-- the greatest so far is that of the key, or 0
above_last : (n last seq : ℕ) (o : Option ℕ) → last ≡ unwrap_or o 0
    → nat_lt n (max last seq) ≡ (option_map_or (nat_lt n) o false || nat_lt n seq)
above_last n last seq None e = lt_max n last seq ∙ ap (λ b. b || nat_lt n seq) (ap (nat_lt n) e ∙ lt_zero n)
above_last n last seq (Some k) e = lt_max n last seq ∙ ap (λ x. nat_lt n x || nat_lt n seq) e

-- a key whose number is now the greater of two
pub noted : (m new : BTreeMap (List ℕ) ℕ) (k : List ℕ) (last seq top : ℕ)
    → last ≡ unwrap_or (get (slice_cmp nat_cmp) m k) 0 → top ≡ max last seq
    → Updates (slice_cmp nat_cmp) m new k (Some top) → (p : List ℕ) (n : ℕ)
    → option_map_or (nat_lt n) (get (slice_cmp nat_cmp) new p) false
    ≡ (option_map_or (nat_lt n) (get (slice_cmp nat_cmp) m p) false || (bytes_eq k p && nat_lt n seq))
noted m new k last seq top was is h p n =
    ap (λ o. option_map_or (nat_lt n) o false) (at_key m new k (Some (max last seq))
    (subst (λ x. Updates (slice_cmp nat_cmp) m new k (Some x)) is h) p)
    ∙ elim (bytes_eq k p) as (λ v. bytes_eq k p ≡ v → option_map_or (nat_lt n)
    (cond v (Some (max last seq)) (get (slice_cmp nat_cmp) m p)) false
    ≡ (option_map_or (nat_lt n) (get (slice_cmp nat_cmp) m p) false || (v && nat_lt n seq))) [
      | true ↦ λ e. above_last n last seq (get (slice_cmp nat_cmp) m p)
          (was ∙ ap (λ q. unwrap_or (get (slice_cmp nat_cmp) m q) 0) ((bytes_eq-Decides k p).0 e))
      | false ↦ λ e. sym (or-false (option_map_or (nat_lt n) (get (slice_cmp nat_cmp) m p) false))
    ] refl
