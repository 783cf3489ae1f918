-- Tests that all have to pass.
use Rattle.std.proofs.Common.{◌≡◌, List, [], ◌∷◌, length, Bool, true, false, IsTrue, refl, sym, ap}
use Rattle.std.proofs.Common.{◌∙◌, arith}
use Rattle.std.specs.Prelude.{◌↔◌, ◌&&◌, ◌==◌}
use Rattle.std.specs.Cmp.{unsigned_Decides}
use Rattle.std.proofs.lemmas.Bool.{false≢true}

pub four : {A B C D : Type 0} (a b c d : Bool) → (IsTrue a ↔ A) → (IsTrue b ↔ B) → (IsTrue c ↔ C)
    → (IsTrue d ↔ D) → (IsTrue (((a && b) && c) && d) ↔ A × B × C × D)
four {A} {B} {C} {D} a b c d f g h k = (
  there a b c d f g h k,
  λ all. back a b c d (f.1 all.0) (g.1 all.1)
      (h.1 all.2) (k.1 all.3),
)
  where
    there : (a b c d : Bool) → (IsTrue a ↔ A) → (IsTrue b ↔ B) → (IsTrue c ↔ C) → (IsTrue d ↔ D)
        → IsTrue (((a && b) && c) && d) → A × B × C × D
    there true true true d f g h k all = (f.0 refl, g.0 refl, h.0 refl, k.0 all)
    there true true false d f g h k all = absurd (false≢true all)
    there true false c d f g h k all = absurd (false≢true all)
    there false b c d f g h k all = absurd (false≢true all)

    back : (a b c d : Bool) → IsTrue a → IsTrue b → IsTrue c → IsTrue d → IsTrue (((a && b) && c) && d)
    back true true true d x y z w = w
    back true true false d x y z w = absurd (false≢true z)
    back true false c d x y z w = absurd (false≢true y)
    back false b c d x y z w = absurd (false≢true x)

pub three : {A B C : Type 0} (a b c : Bool) → (IsTrue a ↔ A) → (IsTrue b ↔ B) → (IsTrue c ↔ C)
    → (IsTrue ((a && b) && c) ↔ A × B × C)
three {A} {B} {C} a b c f g h = (there a b c f g h, λ all. back a b c (f.1 all.0) (g.1 all.1) (h.1 all.2))
  where
    there : (a b c : Bool) → (IsTrue a ↔ A) → (IsTrue b ↔ B) → (IsTrue c ↔ C) → IsTrue ((a && b) && c)
        → A × B × C
    there true true c f g h all = (f.0 refl, g.0 refl, h.0 all)
    there true false c f g h all = absurd (false≢true all)
    there false b c f g h all = absurd (false≢true all)

    back : (a b c : Bool) → IsTrue a → IsTrue b → IsTrue c → IsTrue ((a && b) && c)
    back true true c x y z = z
    back true false c x y z = absurd (false≢true y)
    back false b c x y z = absurd (false≢true x)

pub two : {A B : Type 0} (a b : Bool) → (IsTrue a ↔ A) → (IsTrue b ↔ B) → (IsTrue (a && b) ↔ A × B)
two {A} {B} a b f g = (there a b f g, λ all. back a b (f.1 all.0) (g.1 all.1))
  where
    there : (a b : Bool) → (IsTrue a ↔ A) → (IsTrue b ↔ B) → IsTrue (a && b) → A × B
    there true b f g all = (f.0 refl, g.0 all)
    there false b f g all = absurd (false≢true all)

    back : (a b : Bool) → IsTrue a → IsTrue b → IsTrue (a && b)
    back true b x y = y
    back false b x y = absurd (false≢true x)

pub five : {A B C D E : Type 0} (a b c d e : Bool) → (IsTrue a ↔ A) → (IsTrue b ↔ B) → (IsTrue c ↔ C)
    → (IsTrue d ↔ D) → (IsTrue e ↔ E) → (IsTrue ((((a && b) && c) && d) && e) ↔ A × B × C × D × E)
five a b c d e f g h k l =
    let both = two (((a && b) && c) && d) e (four a b c d f g h k) l in (
      λ all. let x = both.0 all in (x.0.0, x.0.1, x.0.2, x.0.3, x.1),
      λ all. both.1
          ((all.0, all.1, all.2, all.3), all.4),
    )

-- tests that agree, and what they test
pub alike : {A B : Type 0} {a b : Bool} → (IsTrue a ↔ A) → (IsTrue b ↔ B) → {P : Type 0}
    → (P ↔ (IsTrue a ↔ IsTrue b)) → P ↔ (A ↔ B)
alike f g h = (
  λ p. let e = h.0 p in (λ x. g.0 (e.0 (f.1 x)), λ y. f.0 (e.1 (g.1 y))),
  λ e. h.1
      (λ x. g.1 (e.0 (f.0 x)), λ y. f.1 (e.1 (g.0 y))),
)

-- a list of no element
pub none_left : {X : Type 0} (r : Bool) (xs : List X) → r ≡ (length xs == 0) → IsTrue r ↔ (xs ≡ [])
none_left r [] h = (λ yes. refl, λ same. h)
none_left r (x ∷ xs) h = (
  λ yes. absurd (let n = (unsigned_Decides (length (x ∷ xs)) 0).0 (sym h ∙ yes) in
      omega (arith, n)),
  λ same. absurd (let n : length (x ∷ xs) ≡ 0 = ap length same in omega (arith, n)),
)
