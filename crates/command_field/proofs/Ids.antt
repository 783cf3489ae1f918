-- The identities of a list of requests: those so far, and one more.
use Rattle.std.specs.Prelude.{◌≡◌, ◌+◌, ◌<◌, ◌≤◌, ℕ, suc, count_by, Bool, true, false, ◌||◌, List, [], ◌∷◌}
use Rattle.std.specs.Prelude.{◌++◌, flat_map, length}
use Rattle.std.specs.Prelude.{take, bytes_eq, refl}
use Rattle.std.proofs.Common.{sym, ap, subst, ◌∙◌, drop, get_or, arith}
use Rattle.std.specs.List.{list_any, AllByRecursion}
use Rattle.std.proofs.lemmas.Bool.{true≢false, or_parts}
use Rattle.std.proofs.lemmas.List.{take-append-drop}
use Rattle.std.proofs.lemmas.List.Folds.{list_any-append}
use Rattle.std.proofs.Math.Seq.{drop-cons}
use Rattle.sheet_types.specs.Ordered.{is_among}
use Rattle.sheet_types.proofs.Basics.{bytes_eq_itself, bytes_eq_swap, or-true}
use Rattle.sheet_types.proofs.Every.{All-snoc}
use Rattle.sheet_types.proofs.Sums.{count-cons}
use Rattle.field_changes.proofs.Sets.{one_more}
use Rattle.field_run_laws.specs.Lists.{has_twice}
use Rattle.field_run_laws.proofs.Keys.{apart_from}
use Rattle.command_field.specs.Freedom.{StandsTwice}
use Rattle.command_requests.proofs.Listed.{flat_more}

-- a set of what those so far name, with one more
pub among_more : {X : Type 0} (f : X → List (List ℕ)) (mid new : List ℕ → Bool) (xs : List X) (i : ℕ) (x : X)
    → i < length xs → x ≡ get_or xs i x → ((q : List ℕ) → mid q ≡ is_among (flat_map f (take i xs)) q)
    → ((q : List ℕ) → new q ≡ (mid q || is_among (f x) q)) → (q : List ℕ)
    → new q ≡ is_among (flat_map f (take (i + 1) xs)) q
among_more f mid new xs i x within is was step q =
    step q ∙ ap (λ b. b || is_among (f x) q) (was q)
    ∙ sym (list_any-append (λ y. bytes_eq y q) (flat_map f (take i xs)) (f x))
    ∙ ap (λ l. is_among l q) (flat_more f xs i x (flat_map f (take i xs)) (f x) within is refl refl)

-- ---- none twice

-- the elements so far, this one and the rest
all_around : {X : Type 0} (xs : List X) (i : ℕ) (x : X) → i < length xs → x ≡ get_or xs i x
    → xs ≡ take i xs ++ x ∷ drop (suc i) xs
all_around xs i x within is =
    sym (take-append-drop i xs)
    ∙ ap (λ zs. take i xs ++ zs) (drop-cons xs i x within ∙ ap (λ z. z ∷ drop (suc i) xs) (sym is))

twice_snoc : (xs : List (List ℕ)) (k : List ℕ) → has_twice xs ≡ false → is_among xs k ≡ false
    → has_twice (xs ++ k ∷ []) ≡ false
twice_snoc [] k none absent = refl
twice_snoc (x ∷ xs) k none absent =
    let here = or_parts (is_among xs x) (has_twice xs) none in
    let apart = or_parts (bytes_eq x k) (is_among xs k) absent in
    ap (λ b. b || has_twice (xs ++ k ∷ []))
    (list_any-append (λ y. bytes_eq y x) xs (k ∷ []) ∙ ap (λ b. b || (bytes_eq k x || false)) here.0
    ∙ ap (λ b. b || false) (bytes_eq_swap k x ∙ apart.0))
    ∙ twice_snoc xs k here.1 apart.1

-- those so far are apart, and one more that is none of them
pub apart_more : (ks : List (List ℕ)) (i : ℕ) (k : List ℕ) → i < length ks → k ≡ get_or ks i k
    → has_twice (take i ks) ≡ false → is_among (take i ks) k ≡ false → has_twice (take (i + 1) ks) ≡ false
apart_more ks i k within is none absent =
    ap has_twice (one_more ks i k within is) ∙ twice_snoc (take i ks) k none absent

-- one that is one of those before it
pub twice_at : (ks : List (List ℕ)) (i : ℕ) (k : List ℕ) → i < length ks → k ≡ get_or ks i k
    → is_among (take i ks) k ≡ true → has_twice ks ≡ true
twice_at ks i k within is there = by (has_twice ks) refl
  where
    by : (v : Bool) → has_twice ks ≡ v → has_twice ks ≡ true
    by true e = e
    by false e =
        let apart : is_among (take i ks) k ≡ false =
        apart_from (take i ks) k (drop (suc i) ks) (sym (ap has_twice (all_around ks i k within is)) ∙ e) in
        absurd (true≢false (sym there ∙ apart))

counted_once : (xs : List (List ℕ)) (k : List ℕ) (ys : List (List ℕ))
    → 1 ≤ count_by (λ y. bytes_eq y k) (xs ++ k ∷ ys)
counted_once [] k ys = omega (arith, count-cons (λ y. bytes_eq y k) k ys true (bytes_eq_itself k))
counted_once (x ∷ xs) k ys =
    elim (bytes_eq x k) as (λ v. bytes_eq x k ≡ v → 1 ≤ count_by (λ y. bytes_eq y k) (x ∷ (xs ++ k ∷ ys))) [
      | true ↦ λ e. omega (arith, count-cons (λ y. bytes_eq y k) x (xs ++ k ∷ ys) true e)
      | false ↦ λ e. omega (
        arith,
        count-cons (λ y. bytes_eq y k) x (xs ++ k ∷ ys) false e,
        counted_once xs k ys,
      )
    ] refl

counted_twice : (xs : List (List ℕ)) (k : List ℕ) (ys : List (List ℕ)) → is_among xs k ≡ true
    → StandsTwice (xs ++ k ∷ ys) k
counted_twice [] k ys there = absurd (true≢false (sym there))
counted_twice (x ∷ xs) k ys there =
    elim (bytes_eq x k) as (λ v. bytes_eq x k ≡ v → (v || is_among xs k) ≡ true
    → 2 ≤ count_by (λ y. bytes_eq y k) (x ∷ (xs ++ k ∷ ys))) [
      | true ↦ λ e more. omega (
        arith,
        count-cons (λ y. bytes_eq y k) x (xs ++ k ∷ ys) true e,
        counted_once xs k ys,
      )
      | false ↦ λ e more. omega (
        arith,
        count-cons (λ y. bytes_eq y k) x (xs ++ k ∷ ys) false e,
        counted_twice xs k ys more,
      )
    ] refl there

pub counted_at : (ks : List (List ℕ)) (i : ℕ) (k : List ℕ) → i < length ks → k ≡ get_or ks i k
    → is_among (take i ks) k ≡ true → StandsTwice ks k
counted_at ks i k within is there =
    subst (λ l. StandsTwice l k) (sym (all_around ks i k within is))
    (counted_twice (take i ks) k (drop (suc i) ks) there)

-- ---- of each

-- those so far and one more
pub all_more : {X : Type 0} (P : X → Type 0) (xs : List X) (i : ℕ) (x : X) → i < length xs → x ≡ get_or xs i x
    → AllByRecursion P (take i xs) → P x → AllByRecursion P (take (i + 1) xs)
all_more P xs i x within is before here =
    subst (AllByRecursion P) (sym (one_more xs i x within is)) (All-snoc P (take i xs) x before here)

-- one passes
pub any_item : {X : Type 0} (p : X → Bool) (xs : List X) (i : ℕ) (x : X) → i < length xs → x ≡ get_or xs i x
    → p x ≡ true → list_any p xs ≡ true
any_item p xs i x within is passes =
    ap (list_any p) (all_around xs i x within is) ∙ list_any-append p (take i xs) (x ∷ drop (suc i) xs)
    ∙ ap (λ b. list_any p (take i xs) || (b || list_any p (drop (suc i) xs))) passes
    ∙ or-true (list_any p (take i xs))
