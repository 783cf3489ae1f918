-- What a test takes of a list, and what a weaker test had taken before it.
use Rattle.std.specs.Prelude.{◌≡◌, Bool, true, false, cond, List, [], ◌∷◌, filter, find, refl, Some, All}
use Rattle.std.specs.Prelude.{count_by}
use Rattle.std.specs.Prelude.{Contains}
use Rattle.std.proofs.Common.{sym, ap, subst, ◌∙◌, arith, inl, inr}
use Rattle.std.proofs.lemmas.Bool.{true≢false}
use Rattle.std.proofs.lemmas.List.Elements.{All-from_recursion}
use Rattle.std.specs.List.{AllByRecursion}
use Rattle.sheet_types.proofs.Same.{In, In-all}
use Rattle.sheet_types.proofs.Sums.{count-cons}

all_contains : {X : Type 0} (P : X → Type 0) (xs : List X) (x : X) → All P xs → Contains xs x → P x
all_contains P xs x all h = subst P h.2 (all h.0 x h.1)

pub contained : {X : Type 0} (xs : List X) (x : X) → Contains xs x → In x xs
contained xs x h = all_contains (λ y. In y xs) xs x (All-from_recursion (λ y. In y xs) xs (In-all xs)) h

pub of_filter : {X : Type 0} (t : X → Bool) (x : X) (xs : List X) → In x (filter t xs) → In x xs × (t x ≡ true)
of_filter t x [] i = absurd i
of_filter t x (y ∷ ys) i =
    elim (t y) as (λ v. t y ≡ v → In x (cond v (y ∷ filter t ys) (filter t ys)) → In x (y ∷ ys)
    × (t x ≡ true)) [
      | true ↦ λ e j. elim j [
        | inl same ↦ (inl same, ap t (sym same) ∙ e)
        | inr later ↦ let r : In x ys × (t x ≡ true) = of_filter t x ys later in (inr r.0, r.1)
      ]
      | false ↦ λ _ j. let r : In x ys × (t x ≡ true) = of_filter t x ys j in (inr r.0, r.1)
    ] refl i

-- a test takes the same of what a weaker one took
pub taken_again : {X : Type 0} (t u : X → Bool) (xs : List X)
    → AllByRecursion (λ x. t x ≡ true → u x ≡ true) xs
    → filter t (filter u xs) ≡ filter t xs
taken_again t u [] h = refl
taken_again t u (x ∷ xs) h =
    elim (u x) as (λ v. u x ≡ v → filter t (cond v (x ∷ filter u xs) (filter u xs)) ≡ filter t (x ∷ xs)) [
      | true ↦ λ _. ap (λ zs. cond (t x) (x ∷ zs) zs) (taken_again t u xs h.1)
      | false ↦ λ e. taken_again t u xs h.1 ∙ elim (t x) as (λ v. t x ≡ v
          → filter t xs ≡ cond v (x ∷ filter t xs) (filter t xs)) [
            | true ↦ λ g. absurd (true≢false (sym (h.0 g) ∙ e))
            | false ↦ λ _. refl
          ] refl
    ] refl

-- what all pass takes all
pub taken_all : {X : Type 0} (t : X → Bool) (xs : List X) → AllByRecursion (λ x. t x ≡ true) xs
    → filter t xs ≡ xs
taken_all t [] h = refl
taken_all t (x ∷ xs) h = ap (λ b. cond b (x ∷ filter t xs) (filter t xs)) h.0
    ∙ ap (λ zs. x ∷ zs) (taken_all t xs h.1)

-- as many pass
pub counted_again : {X : Type 0} (t u : X → Bool) (xs : List X)
    → AllByRecursion (λ x. t x ≡ true → u x ≡ true) xs
    → count_by t (filter u xs) ≡ count_by t xs
counted_again t u [] h = refl
counted_again t u (x ∷ xs) h =
    let ih : count_by t (filter u xs) ≡ count_by t xs = counted_again t u xs h.1 in
    elim (u x) as (λ v. u x ≡ v → count_by t (cond v (x ∷ filter u xs) (filter u xs))
    ≡ count_by t (x ∷ xs)) [
      | true ↦ λ _. elim (t x) as (λ v. t x ≡ v → count_by t (x ∷ filter u xs) ≡ count_by t (x ∷ xs)) [
        | true ↦ λ g. omega (arith, ih, count-cons t x xs true g, count-cons t x (filter u xs) true g)
        | false ↦ λ g. omega (arith, ih, count-cons t x xs false g, count-cons t x (filter u xs) false g)
      ] refl
      | false ↦ λ e. elim (t x) as (λ v. t x ≡ v → count_by t (filter u xs) ≡ count_by t (x ∷ xs)) [
        | true ↦ λ g. absurd (true≢false (sym (h.0 g) ∙ e))
        | false ↦ λ g. omega (arith, ih, count-cons t x xs false g)
      ] refl
    ] refl

-- the first that passes is the same
pub found_again : {X : Type 0} (t u : X → Bool) (xs : List X)
    → AllByRecursion (λ x. t x ≡ true → u x ≡ true) xs
    → find t (filter u xs) ≡ find t xs
found_again t u [] h = refl
found_again t u (x ∷ xs) h =
    elim (u x) as (λ v. u x ≡ v → find t (cond v (x ∷ filter u xs) (filter u xs)) ≡ find t (x ∷ xs)) [
      | true ↦ λ _. ap (λ o. cond (t x) (Some x) o) (found_again t u xs h.1)
      | false ↦ λ e. found_again t u xs h.1 ∙ elim (t x) as (λ v. t x ≡ v
          → find t xs ≡ cond v (Some x) (find t xs)) [
            | true ↦ λ g. absurd (true≢false (sym (h.0 g) ∙ e))
            | false ↦ λ _. refl
          ] refl
    ] refl
