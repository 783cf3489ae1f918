-- Small facts of tests, of keys, and of what a test of each element says.
use Rattle.std.specs.Prelude.{◌≡◌, ℕ, Bool, true, false, not, ◌&&◌, ◌||◌, List, refl, bytes_eq}
use Rattle.std.specs.Prelude.{Option, Some, None, is_none}
use Rattle.std.proofs.Common.{sym, ap, ◌∙◌}
use Rattle.std.proofs.lemmas.Bool.{true≢false, false≢true, false_from_ne_true}
use Rattle.std.proofs.lemmas.Slice.Eq.{bytes_eq-Decides}
use Rattle.std.proofs.lemmas.Cmp.{nat_list_cmp_total}
use Rattle.std.proofs.lemmas.Map.Text.{is_eq-slice_cmp}
use Rattle.std.specs.Ordering.{is_lt, is_eq, nat_cmp, ordering_reverse}
use Rattle.std.specs.declared.cmp.Ordering.{Ordering}
use Rattle.std.specs.declared.cmp.Ordering.TheVariants.{Less, Equal, Greater}
use Rattle.std.specs.Cmp.Lexicographic.{slice_cmp}
use Rattle.sheet_types.specs.Ordered.{is_before}

-- ---- tests

-- none is not some
pub None≢Some : {X : Type 0} {x : X} → None ≡ Some x → ⊥
None≢Some e = true≢false (ap is_none e)

-- what is there is known
pub some_same : {X : Type 0} {x y : X} → Some x ≡ Some y → x ≡ y
some_same e = cc

-- and is one
pub some_once : {X : Type 0} (o : Option X) (x y : X) → o ≡ Some x → o ≡ Some y → x ≡ y
some_once o x y e f = some_same (sym e ∙ f)

-- two values that a test tells apart are not one
pub differ : {X : Type 0} {x y : X} → (test : X → Bool) → test x ≡ false → test y ≡ true → x ≡ y → ⊥
differ test no_x yes_y e = false≢true (sym no_x ∙ ap test e ∙ yes_y)

-- a test or none
pub or-false : (b : Bool) → (b || false) ≡ b
or-false true = refl
or-false false = refl

-- a test or all
pub or-true : (b : Bool) → (b || true) ≡ true
or-true true = refl
or-true false = refl

-- a test that does not fail
pub not_false : (b : Bool) → not b ≡ false → b ≡ true
not_false true h = refl
not_false false h = absurd (true≢false h)

-- a test that does
pub not_true : (b : Bool) → not b ≡ true → b ≡ false
not_true true h = absurd (false≢true h)
not_true false h = refl

-- a test and nothing more
pub and-true : (b : Bool) → (b && true) ≡ b
and-true true = refl
and-true false = refl

pub and_true : (b : Bool) → (b && true) ≡ true → b ≡ true
and_true true h = refl
and_true false h = h

-- ---- keys

-- a key is itself
pub bytes_eq_itself : (a : List ℕ) → bytes_eq a a ≡ true
bytes_eq_itself a = (bytes_eq-Decides a a).1 refl

-- equality goes both ways
pub bytes_eq_swap : (a b : List ℕ) → bytes_eq a b ≡ bytes_eq b a
bytes_eq_swap a b =
    elim (bytes_eq a b) as (λ v. bytes_eq a b ≡ v → v ≡ bytes_eq b a) [
      | true ↦ λ same. sym (ap (λ z. bytes_eq z a) (sym ((bytes_eq-Decides a b).0 same)) ∙ bytes_eq_itself a)
      | false ↦ λ differs. sym (false_from_ne_true (bytes_eq b a)
          (λ same. true≢false (sym (ap (λ z. bytes_eq z b) (sym ((bytes_eq-Decides b a).0 same))
          ∙ bytes_eq_itself b) ∙ differs)))
    ] refl

-- less is not equal
is_lt-not-eq : (o : Ordering) → is_lt o ≡ true → is_eq o ≡ false
is_lt-not-eq Less h = refl
is_lt-not-eq Equal h = absurd (false≢true h)
is_lt-not-eq Greater h = refl

-- what stands before is not the same
pub before-differs : (a b : List ℕ) → is_before a b ≡ true → bytes_eq a b ≡ false
before-differs a b h = sym (is_eq-slice_cmp a b) ∙ is_lt-not-eq (slice_cmp nat_cmp a b) h

-- what is not less and not equal is less the other way
either_way : (o : Ordering) → is_lt o ≡ false → is_eq o ≡ false → is_lt (ordering_reverse o) ≡ true
either_way Less h g = absurd (true≢false h)
either_way Equal h g = absurd (true≢false g)
either_way Greater h g = refl

-- of two keys that differ one stands before the other
pub before_other_way : (a b : List ℕ) → is_before a b ≡ false → bytes_eq a b ≡ false
    → is_before b a ≡ true
before_other_way a b h g = ap is_lt (nat_list_cmp_total.antisymm b a)
    ∙ either_way (slice_cmp nat_cmp a b) h (is_eq-slice_cmp a b ∙ g)

-- the test of less
pub lt_is_less : (o : Ordering) → is_lt o ≡ true → o ≡ Less
lt_is_less Less h = refl
lt_is_less Equal h = absurd (false≢true h)
lt_is_less Greater h = absurd (false≢true h)

-- the order goes from key to key
pub before_trans : (a b c : List ℕ) → is_before a b ≡ true → is_before b c ≡ true → is_before a c ≡ true
before_trans a b c h g = ap is_lt (nat_list_cmp_total.trans a b c (lt_is_less (slice_cmp nat_cmp a b) h)
    (lt_is_less (slice_cmp nat_cmp b c) g))

-- less is not less the other way
one_way : (o : Ordering) → is_lt o ≡ true → is_lt (ordering_reverse o) ≡ false
one_way Less h = refl
one_way Equal h = absurd (false≢true h)
one_way Greater h = absurd (false≢true h)

-- of two keys only one is before the other
pub before_not_after : (a b : List ℕ) → is_before a b ≡ true → is_before b a ≡ false
before_not_after a b h = ap is_lt (nat_list_cmp_total.antisymm b a) ∙ one_way (slice_cmp nat_cmp a b) h

pub before_one_way : (a b : List ℕ) → is_before a b ≡ true → is_before b a ≡ true → ⊥
before_one_way a b h g = true≢false (sym g ∙ before_not_after a b h)
