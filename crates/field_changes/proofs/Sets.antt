-- Maps and sets whose keys are lists, as functions of the key, with one key more.
use Rattle.std.specs.Prelude.{◌≡◌, ◌+◌, ◌<◌, ℕ, Bool, true, false, cond, ◌||◌, List, []}
use Rattle.std.specs.Prelude.{◌∷◌, ◌++◌, Option, Some}
use Rattle.std.specs.Prelude.{length, take, bytes_eq, refl}
use Rattle.std.proofs.Common.{sym, ap, ◌∙◌, get_or}
use Rattle.std.specs.List.{list_any}
use Rattle.std.specs.Ordering.{nat_cmp}
use Rattle.std.specs.Cmp.Lexicographic.{slice_cmp}
use Rattle.std.specs.BTreeMap.{BTreeMap, get, Updates}
use Rattle.std.specs.BTreeSet as set
use Rattle.std.specs.BTreeSet.{BTreeSet, contains}
use Rattle.std.proofs.lemmas.List.{take_more}
use Rattle.std.proofs.lemmas.List.Folds.{list_any-append}
use Rattle.std.proofs.lemmas.Map.Text.{is_eq-slice_cmp}
use Rattle.sheet_types.proofs.Basics.{or-false}

-- what a map has at each key once a key was set
pub at_key : {X : Type 0} (m n : BTreeMap (List ℕ) X) (k : List ℕ) (w : Option X)
    → Updates (slice_cmp nat_cmp) m n k w → (q : List ℕ) → get (slice_cmp nat_cmp) n q
    ≡ cond (bytes_eq k q) w (get (slice_cmp nat_cmp) m q)
at_key m n k w h q = h.0 q ∙ ap (λ b. cond b w (get (slice_cmp nat_cmp) m q)) (is_eq-slice_cmp k q)

or_comm : (a b : Bool) → cond a true b ≡ (b || a)
or_comm true true = refl
or_comm true false = refl
or_comm false true = refl
or_comm false false = refl

-- whether a set has each key once a key was put in
pub put_in : (s t : BTreeSet (List ℕ)) (k : List ℕ) → set.Updates (slice_cmp nat_cmp) s t k true
    → (q : List ℕ)
    → contains (slice_cmp nat_cmp) t q ≡ (contains (slice_cmp nat_cmp) s q || bytes_eq k q)
put_in s t k h q = h.0 q ∙ ap (λ b. cond b true (contains (slice_cmp nat_cmp) s q)) (is_eq-slice_cmp k q)
    ∙ or_comm (bytes_eq k q) (contains (slice_cmp nat_cmp) s q)

-- what some of a list have, and one more
pub any_snoc : {X : Type 0} (p : X → Bool) (xs : List X) (x : X)
    → list_any p (xs ++ x ∷ []) ≡ (list_any p xs || p x)
any_snoc p xs x = list_any-append p xs (x ∷ []) ∙ ap (λ b. list_any p xs || b) (or-false (p x))

-- the elements so far and one more
pub one_more : {X : Type 0} (xs : List X) (i : ℕ) (x : X) → i < length xs → x ≡ get_or xs i x
    → take (i + 1) xs ≡ take i xs ++ x ∷ []
one_more xs i x lt is = take_more xs i x lt ∙ ap (λ z. take i xs ++ z ∷ []) (sym is)

-- a set of what those so far have, with one more
pub any_more : {X : Type 0} (t : List ℕ → X → Bool) (mid new : List ℕ → Bool) (xs : List X) (i : ℕ) (x : X)
    → i < length xs → x ≡ get_or xs i x
    → ((q : List ℕ) → mid q ≡ list_any (t q) (take i xs)) → ((q : List ℕ) → new q ≡ (mid q || t q x))
    → (q : List ℕ)
    → new q ≡ list_any (t q) (take (i + 1) xs)
any_more t mid new xs i x lt is was step q =
    step q ∙ ap (λ b. b || t q x) (was q) ∙ sym (any_snoc (t q) (take i xs) x)
    ∙ ap (list_any (t q)) (sym (one_more xs i x lt is))
