-- What holds of each receipt, of a list that is walked from its first to its last.
use Rattle.std.specs.Prelude.{◌≡◌, ◌↔◌, ◌+◌, ◌<◌, ◌≤◌, ℕ, suc, Bool, true, false, IsTrue}
use Rattle.std.specs.Prelude.{List, [], ◌∷◌, ◌++◌, length, take, refl}
use Rattle.std.proofs.Common.{sym, subst, ap, ◌∙◌, drop, get_or, arith}
use Rattle.std.proofs.lemmas.Bool.{false≢true}
use Rattle.std.proofs.lemmas.List.{take_more, take_all, take-append-drop}
use Rattle.std.proofs.Math.Seq.{drop-cons}
use Rattle.std.specs.List.{AllByRecursion}
use Rattle.sheet_types.specs.declared.receipt.Receipt.{Receipt}
use Rattle.sheet_types.proofs.Every.{All-snoc, All-right}
use Rattle.sheet_ledger.specs.Parts.{EachAfter}
use Rattle.sheet_ledger.proofs.Parts.{each_snoc, each_at}

-- ---- answers

pub says_yes : {X : Type 0} → X → IsTrue true ↔ X
says_yes x = ((λ _. x), (λ _. refl))

pub says_no : {X : Type 0} → (X → ⊥) → IsTrue false ↔ X
says_no h = ((λ e. absurd (false≢true e)), (λ x. absurd (h x)))

-- what an answer that is no denies
pub denied : {X : Type 0} (b : Bool) → IsTrue b ↔ X → b ≡ false → X → ⊥
denied b h e x = false≢true (sym e ∙ h.1 x)

-- ---- lists

-- the elements so far and one more
pub one_more : {X : Type 0} (xs : List X) (i : ℕ) (x : X) → i < length xs → x ≡ get_or xs i x
    → take (i + 1) xs ≡ take i xs ++ x ∷ []
one_more xs i x lt is = take_more xs i x lt ∙ ap (λ z. take i xs ++ z ∷ []) (sym is)

-- the elements so far, this one and the rest
pub all_around : {X : Type 0} (xs : List X) (i : ℕ) (x : X) → i < length xs → x ≡ get_or xs i x
    → xs ≡ take i xs ++ x ∷ drop (suc i) xs
all_around xs i x lt is = sym (take-append-drop i xs) ∙ ap (λ zs. take i xs ++ zs)
    (drop-cons xs i x lt ∙ ap (λ z. z ∷ drop (suc i) xs) (sym is))

-- ---- of each after those before it

pub each_more : (P : List Receipt → Receipt → Type 0) (rs : List Receipt) (i : ℕ) (r : Receipt)
    → i < length rs → r ≡ get_or rs i r → EachAfter P [] (take i rs) → P (take i rs) r
    → EachAfter P [] (take (i + 1) rs)
each_more P rs i r lt is h p = subst (EachAfter P []) (sym (one_more rs i r lt is)) (each_snoc P [] (take i rs) r h p)

pub each_fails : (P : List Receipt → Receipt → Type 0) (rs : List Receipt) (i : ℕ) (r : Receipt)
    → i < length rs → r ≡ get_or rs i r → (P (take i rs) r → ⊥) → EachAfter P [] rs → ⊥
each_fails P rs i r lt is no_p h = no_p (each_at P [] (take i rs) r (drop (suc i) rs)
    (subst (EachAfter P []) (all_around rs i r lt is) h))

pub each_done : (P : List Receipt → Receipt → Type 0) (rs : List Receipt) (n : ℕ) → length rs ≤ n
    → EachAfter P [] (take n rs) → EachAfter P [] rs
each_done P rs n le h = subst (EachAfter P []) (take_all n rs le) h

-- ---- of each by itself

pub all_more : {X : Type 0} (P : X → Type 0) (xs : List X) (i : ℕ) (x : X) → i < length xs
    → x ≡ get_or xs i x → AllByRecursion P (take i xs) → P x → AllByRecursion P (take (i + 1) xs)
all_more P xs i x lt is h p = subst (AllByRecursion P) (sym (one_more xs i x lt is)) (All-snoc P (take i xs) x h p)

pub all_fails : {X : Type 0} (P : X → Type 0) (xs : List X) (i : ℕ) (x : X) → i < length xs
    → x ≡ get_or xs i x → (P x → ⊥) → AllByRecursion P xs → ⊥
all_fails P xs i x lt is no_p h = no_p (All-right P (take i xs) (x ∷ drop (suc i) xs)
    (subst (AllByRecursion P) (all_around xs i x lt is) h)).0

pub all_done : {X : Type 0} (P : X → Type 0) (xs : List X) (n : ℕ) → length xs ≤ n
    → AllByRecursion P (take n xs) → AllByRecursion P xs
all_done P xs n le h = subst (AllByRecursion P) (take_all n xs le) h
