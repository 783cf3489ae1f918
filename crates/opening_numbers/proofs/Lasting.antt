-- The greatest of some numbers.
use Rattle.std.specs.Prelude.{◌≡◌, ◌⊎◌, ◌≤◌, ◌==◌, ℕ, zero, suc, ℤ, pos, Bool, true, false}
use Rattle.std.specs.Prelude.{List, [], ◌∷◌, ◌++◌}
use Rattle.std.specs.Prelude.{Option, Some, None, Contains, max, nat_le, unsigned_abs, refl}
use Rattle.std.proofs.Common.{sym, ap, subst, ◌∙◌, arith, inl, inr}
use Rattle.std.proofs.lemmas.Bool.{cases_lt}
use Rattle.std.proofs.Math.Nat.{le-max_left, le-max_right, max-eq_left, max-eq_right}
use Rattle.opening_faults.proofs.Choosing.{last_there, still_there, there_or_last}
use Rattle.opening_faults.proofs.Members.{contained}
use Rattle.opening_numbers.specs.Numbers.{Among, IsLast}

-- none of them
pub last_none : (P : ℕ → Type 0) → ((m : ℕ) → P m → ⊥) → IsLast P 0
last_none P none = (inl refl, λ m p. absurd (none m p))

-- of the same numbers
pub last_same : (P Q : ℕ → Type 0) → ((m : ℕ) → P m → Q m) → ((m : ℕ) → Q m → P m) → (n : ℕ)
    → IsLast P n → IsLast Q n
last_same P Q to fro n h = (elim h.0 [ inl e ↦ inl e | inr p ↦ inr (to n p) ], λ m q. h.1 m (fro m q))

-- one number, where it is not negative
pub last_pos : (z : ℤ) (n : ℕ) → z ≡ pos n → IsLast (λ m. z ≡ pos m) n
last_pos z n is = (inr is, λ m e. let same : m ≡ n = ap unsigned_abs (sym e ∙ is) in omega (arith, same))

-- the greater of two
pub last_of_two : (P Q R : ℕ → Type 0) → ((m : ℕ) → P m → R m) → ((m : ℕ) → Q m → R m)
    → ((m : ℕ) → R m → P m ⊎ Q m)
    → (a b : ℕ) → IsLast P a → IsLast Q b → IsLast R (max a b)
last_of_two P Q R one two fro a b left right = (met, least)
  where
    least : (m : ℕ) → R m → m ≤ max a b
    least m r = elim (fro m r) [
      | inl p ↦ let low : m ≤ a = left.1 m p in let more : a ≤ max a b =
          le-max_left a b in omega (arith, low, more)
      | inr q ↦ let low : m ≤ b = right.1 m q in let more : b ≤ max a b =
          le-max_right a b in omega (arith, low, more)
    ]

    from_left : max a b ≡ a → (max a b ≡ 0) ⊎ R (max a b)
    from_left is = elim left.0 [ inl e ↦ inl (is ∙ e) | inr p ↦ inr (subst R (sym is) (one a p)) ]

    from_right : max a b ≡ b → (max a b ≡ 0) ⊎ R (max a b)
    from_right is = elim right.0 [ inl e ↦ inl (is ∙ e) | inr q ↦ inr (subst R (sym is) (two b q)) ]

    met : (max a b ≡ 0) ⊎ R (max a b)
    met = elim (cases_lt a b) [
      | inl lt ↦ from_right (max-eq_right (omega (arith, lt)))
      | inr le
          ↦ from_left (max-eq_left le)
    ]

-- none so far
pub among_none : {X : Type 0} (P : X → ℕ → Type 0) → IsLast (Among P []) 0
among_none P = (inl refl, λ m h. absurd (contained [] h.0 h.1))

-- one more
pub among_more : {X : Type 0} (P : X → ℕ → Type 0) (xs more : List X) (x : X) → more ≡ xs ++ x ∷ []
    → (a b : ℕ)
    → IsLast (Among P xs) a → IsLast (P x) b → IsLast (Among P more) (max a b)
among_more P xs more x is a b before here =
    last_of_two (Among P xs) (P x) (Among P more)
    (λ m h. (h.0, still_there xs more x h.0 is h.1, h.2))
    (λ m p. (x, last_there xs more x is, p))
    (λ m h. elim (there_or_last xs more x h.0 is h.1) [
      | inl old ↦ inl (h.0, old, h.2)
      | inr e ↦ inr (subst (λ y. P y m) (sym e) h.2)
    ]) a b before here
