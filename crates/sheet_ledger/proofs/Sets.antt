-- Sets of what the receipts so far say.
use Rattle.std.specs.Prelude.{◌≡◌, ℕ, Bool, true, false, ◌||◌, List, [], ◌∷◌, ◌++◌, bytes_eq}
use Rattle.std.specs.Prelude.{refl}
use Rattle.std.proofs.Common.{sym, ap, ◌∙◌}
use Rattle.std.specs.List.{list_any}
use Rattle.std.specs.Ordering.{nat_cmp}
use Rattle.std.specs.Cmp.Lexicographic.{slice_cmp}
use Rattle.std.specs.BTreeSet as set
use Rattle.std.specs.BTreeSet.{BTreeSet, contains}
use Rattle.std.proofs.lemmas.List.Folds.{list_any-append}
use Rattle.sheet_types.specs.Ordered.{has}
use Rattle.sheet_types.specs.declared.receipt.Receipt.{Receipt}
use Rattle.sheet_types.proofs.Basics.{or-false}
use Rattle.sheet_ledger.proofs.Maps.{in_set}

pub or_swap : (a b : Bool) → (a || b) ≡ (b || (a || false))
or_swap true true = refl
or_swap true false = refl
or_swap false true = refl
or_swap false false = refl

-- a set of keys with one more
pub seen_more : {X : Type 0} (key : X → List ℕ) (s t : BTreeSet (List ℕ)) (xs more : List X) (x : X)
    → more ≡ xs ++ x ∷ [] → ((q : List ℕ) → contains (slice_cmp nat_cmp) s q ≡ has key q xs)
    → set.Updates (slice_cmp nat_cmp) s t (key x) true → (q : List ℕ)
    → contains (slice_cmp nat_cmp) t q ≡ has key q more
seen_more key s t xs more x is was h q =
    in_set s t (key x) h q ∙ ap (λ b. bytes_eq (key x) q || b) (was q)
    ∙ or_swap (bytes_eq (key x) q) (has key q xs)
    ∙ sym (list_any-append (λ y. bytes_eq (key y) q) xs (x ∷ [])) ∙ ap (has key q) (sym is)

-- what some of a list have, and one more
pub any_snoc : {X : Type 0} (p : X → Bool) (xs more : List X) (x : X) → more ≡ xs ++ x ∷ []
    → list_any p more ≡ (list_any p xs || p x)
any_snoc p xs more x is = ap (list_any p) is ∙ list_any-append p xs (x ∷ [])
    ∙ ap (λ b. list_any p xs || b) (or-false (p x))

or_assoc : (a b c : Bool) → ((a || b) || c) ≡ (a || (b || c))
or_assoc true b c = refl
or_assoc false b c = refl

-- a set with what one more names
pub named_more : {X : Type 0} (t : X → List ℕ → Bool) (old mid new : List ℕ → Bool) (xs more : List X)
    (x : X) → more ≡ xs ++ x ∷ [] → ((q : List ℕ) → mid q ≡ (old q || list_any (λ y. t y q) xs))
    → ((q : List ℕ) → new q ≡ (mid q || t x q))
    → (q : List ℕ) → new q ≡ (old q || list_any (λ y. t y q) more)
named_more t old mid new xs more x is was step q =
    step q ∙ ap (λ b. b || t x q) (was q) ∙ or_assoc (old q) (list_any (λ y. t y q) xs) (t x q)
    ∙ ap (λ b. old q || b) (sym (any_snoc (λ y. t y q) xs more x is))

-- a set of what the receipts so far name, with one more
pub known_more : {X : Type 0} (t : X → List ℕ → Bool) (mid new : List ℕ → Bool) (xs more : List X) (x : X)
    → more ≡ xs ++ x ∷ [] → ((q : List ℕ) → mid q ≡ list_any (λ y. t y q) xs)
    → ((q : List ℕ) → new q ≡ (mid q || t x q))
    → (q : List ℕ) → new q ≡ list_any (λ y. t y q) more
known_more t mid new xs more x is was step q = step q ∙ ap (λ b. b || t x q) (was q)
    ∙ sym (any_snoc (λ y. t y q) xs more x is)

-- what is put in, behind what was there
pub put_in : (s t : BTreeSet (List ℕ)) (k : List ℕ) → set.Updates (slice_cmp nat_cmp) s t k true
    → (q : List ℕ) → contains (slice_cmp nat_cmp) t q ≡ (contains (slice_cmp nat_cmp) s q || bytes_eq k q)
put_in s t k h q = in_set s t k h q ∙ or_comm (bytes_eq k q) (contains (slice_cmp nat_cmp) s q)
  where
    or_comm : (a b : Bool) → (a || b) ≡ (b || a)
    or_comm true true = refl
    or_comm true false = refl
    or_comm false true = refl
    or_comm false false = refl
