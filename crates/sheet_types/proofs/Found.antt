-- What a search of a list finds, and what a filter leaves to be found.
use Rattle.std.specs.Prelude.{◌≡◌, Bool, true, false, cond, ◌||◌, List, [], ◌∷◌, filter, find, refl}
use Rattle.std.specs.Prelude.{Some, None, unwrap_or}
use Rattle.std.proofs.Common.{sym, ap, subst, ◌∙◌}
use Rattle.std.proofs.lemmas.Bool.{false≢true, or_parts}
use Rattle.std.specs.List.{list_any, AllByRecursion}
use Rattle.sheet_types.proofs.Basics.{None≢Some, or-true}
use Rattle.sheet_types.proofs.Every.{All-each}

-- where some element passes, one is found
pub found : {X : Type 0} (p : X → Bool) (xs : List X) → list_any p xs ≡ true → (x : X) × (find p xs ≡ Some x)
found p [] h = absurd (false≢true h)
found p (y ∷ ys) h =
    elim (p y) as (λ v. (v || list_any p ys) ≡ true → (x : _) × (cond v (Some y) (find p ys) ≡ Some x)) [
      | true ↦ λ _. (y, refl)
      | false ↦ λ more. found p ys more
    ] h

-- where none passes, none is found
pub not_found : {X : Type 0} (p : X → Bool) (xs : List X) → list_any p xs ≡ false → find p xs ≡ None
not_found p [] h = refl
not_found p (y ∷ ys) h = let parts : (p y ≡ false) × (list_any p ys ≡ false) =
    or_parts (p y) (list_any p ys) h in rw parts.0 (not_found p ys parts.1)

-- where none is found, none passes
pub none_found : {X : Type 0} (p : X → Bool) (xs : List X) → find p xs ≡ None → list_any p xs ≡ false
none_found p [] h = refl
none_found p (x ∷ xs) h =
    elim (p x) as (λ v. cond v (Some x) (find p xs) ≡ None → (v || list_any p xs) ≡ false) [
      | true ↦ λ e. absurd (None≢Some (sym e))
      | false ↦ λ e. none_found p xs e
    ] h

-- what is found has the fact of all, and passes
pub All-found : {X : Type 0} (P : X → Type 0) (p : X → Bool) (x : X) (xs : List X) → find p xs ≡ Some x
    → AllByRecursion P xs → P x × (p x ≡ true)
All-found P p x [] e h = absurd (None≢Some e)
All-found P p x (y ∷ ys) e h =
    elim (p y) as (λ v. p y ≡ v → cond v (Some y) (find p ys) ≡ Some x → P x × (p x ≡ true)) [
      | true ↦ λ here is. let same : y ≡ x = ap (λ o. unwrap_or o y) is in
          (subst P same h.0, subst (λ z. p z ≡ true) same here)
      | false ↦ λ _ is. All-found P p x ys is h.1
    ] refl e

-- what is found passes
pub found_passes : {X : Type 0} (p : X → Bool) (x : X) (xs : List X) → find p xs ≡ Some x → p x ≡ true
found_passes {X} p x xs e = (All-found (λ _. Unit {0}) p x xs e (All-each (λ _. Unit {0}) (λ _. tt) xs)).1

-- a weaker test is passed too
pub any_implies : {X : Type 0} (p q : X → Bool) → ((x : X) → p x ≡ true → q x ≡ true) → (xs : List X)
    → list_any p xs ≡ true → list_any q xs ≡ true
any_implies p q f [] h = absurd (false≢true h)
any_implies p q f (x ∷ xs) h =
    elim (p x) as (λ v. p x ≡ v → (v || list_any p xs) ≡ true → (q x || list_any q xs) ≡ true) [
      | true ↦ λ e _. ap (λ b. b || list_any q xs) (f x e)
      | false ↦ λ _ more. ap (λ b. q x || b) (any_implies p q f xs more) ∙ or-true (q x)
    ] refl h

-- a filter that takes all that pass leaves one
pub any_filter : {X : Type 0} (p t : X → Bool) (xs : List X) → ((x : X) → p x ≡ true → t x ≡ true)
    → list_any p xs ≡ true → list_any p (filter t xs) ≡ true
any_filter p t [] f h = h
any_filter p t (x ∷ xs) f h =
    elim (p x) as (λ v. p x ≡ v → (v || list_any p xs) ≡ true
    → list_any p (cond (t x) (x ∷ filter t xs) (filter t xs)) ≡ true) [
      | true ↦ λ e _. rw (f x e) (ap (λ b. b || list_any p (filter t xs)) e)
      | false ↦ λ e more. elim (t x) as (λ v. list_any p (cond v (x ∷ filter t xs) (filter t xs)) ≡ true) [
        | true ↦ ap (λ b. b || list_any p (filter t xs)) e ∙ any_filter p t xs f more
        | false ↦ any_filter p t xs f more
      ]
    ] refl h

-- filters that agree on a list
pub filter_same : {X : Type 0} (p q : X → Bool) (xs : List X) → AllByRecursion (λ x. p x ≡ q x) xs
    → filter p xs ≡ filter q xs
filter_same p q [] h = refl
filter_same p q (x ∷ xs) h = rw h.0 (ap (λ zs. cond (q x) (x ∷ zs) zs) (filter_same p q xs h.1))

-- what a filter takes passes
pub filter_passes : {X : Type 0} (p : X → Bool) (xs : List X) → AllByRecursion (λ x. p x ≡ true) (filter p xs)
filter_passes p [] = tt
filter_passes p (x ∷ xs) = elim (p x) as (λ v. p x ≡ v → AllByRecursion (λ y. p y ≡ true)
    (cond v (x ∷ filter p xs) (filter p xs))) [
      | true ↦ λ e. (e, filter_passes p xs)
      | false
          ↦ λ _. filter_passes p xs
    ] refl
