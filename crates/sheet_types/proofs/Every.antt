-- What holds of every element of a list.
use Rattle.std.specs.Prelude.{◌≡◌, Bool, true, false, cond, List, [], ◌∷◌, ◌++◌, map, filter}
use Rattle.std.specs.Prelude.{flat_map, refl}
use Rattle.std.proofs.lemmas.Bool.{or_parts}
use Rattle.std.specs.List.{list_any, AllByRecursion}

-- a weaker fact of each
pub All-weaker : {X : Type 0} (P Q : X → Type 0) → ((x : X) → P x → Q x) → (xs : List X)
    → AllByRecursion P xs → AllByRecursion Q xs
All-weaker P Q f [] h = tt
All-weaker P Q f (x ∷ xs) h = (f x h.0, All-weaker P Q f xs h.1)

-- what follows from two facts of each
pub All-both : {X : Type 0} (P Q R : X → Type 0) → ((x : X) → P x → Q x → R x) → (xs : List X)
    → AllByRecursion P xs → AllByRecursion Q xs → AllByRecursion R xs
All-both P Q R f [] h g = tt
All-both P Q R f (x ∷ xs) h g = (f x h.0 g.0, All-both P Q R f xs h.1 g.1)

-- what holds of anything holds of each
pub All-each : {X : Type 0} (P : X → Type 0) → ((x : X) → P x) → (xs : List X) → AllByRecursion P xs
All-each P f [] = tt
All-each P f (x ∷ xs) = (f x, All-each P f xs)

-- of each of two lists, from both together
pub All-left : {X : Type 0} (P : X → Type 0) (xs ys : List X) → AllByRecursion P (xs ++ ys) → AllByRecursion P xs
All-left P [] ys h = tt
All-left P (x ∷ xs) ys h = (h.0, All-left P xs ys h.1)

-- and of the second
pub All-right : {X : Type 0} (P : X → Type 0) (xs ys : List X) → AllByRecursion P (xs ++ ys) → AllByRecursion P ys
All-right P [] ys h = h
All-right P (x ∷ xs) ys h = All-right P xs ys h.1

-- of both lists together
pub All-append : {X : Type 0} (P : X → Type 0) (xs ys : List X) → AllByRecursion P xs → AllByRecursion P ys
    → AllByRecursion P (xs ++ ys)
All-append P [] ys h g = g
All-append P (x ∷ xs) ys h g = (h.0, All-append P xs ys h.1 g)

-- of a list and one more
pub All-snoc : {X : Type 0} (P : X → Type 0) (xs : List X) (y : X) → AllByRecursion P xs → P y
    → AllByRecursion P (xs ++ y ∷ [])
All-snoc P xs y h p = All-append P xs (y ∷ []) h (p, tt)

-- of what a filter takes
pub All-filter : {X : Type 0} (P : X → Type 0) (t : X → Bool) (xs : List X) → AllByRecursion P xs
    → AllByRecursion P (filter t xs)
All-filter P t [] h = tt
All-filter P t (x ∷ xs) h = elim (t x) as (λ v. AllByRecursion P (cond v (x ∷ filter t xs) (filter t xs)))
    [ true ↦ (h.0, All-filter P t xs h.1) | false ↦ All-filter P t xs h.1 ]

-- of what a filter takes, where only that has the fact
pub All-taken : {X : Type 0} (P : X → Type 0) (t : X → Bool) (xs : List X)
    → AllByRecursion (λ x. t x ≡ true → P x) xs → AllByRecursion P (filter t xs)
All-taken P t [] h = tt
All-taken P t (x ∷ xs) h = elim (t x) as (λ v. t x ≡ v → AllByRecursion P
    (cond v (x ∷ filter t xs) (filter t xs))) [
      | true ↦ λ e. (h.0 e, All-taken P t xs h.1)
      | false
          ↦ λ _. All-taken P t xs h.1
    ] refl

-- of what a map makes
pub All-map : {X Y : Type 0} (P : Y → Type 0) (f : X → Y) (xs : List X) → AllByRecursion (λ x. P (f x)) xs
    → AllByRecursion P (map f xs)
All-map P f [] h = tt
All-map P f (x ∷ xs) h = (h.0, All-map P f xs h.1)

-- and back
pub All-of_map : {X Y : Type 0} (P : Y → Type 0) (f : X → Y) (xs : List X) → AllByRecursion P (map f xs)
    → AllByRecursion (λ x. P (f x)) xs
All-of_map P f [] h = tt
All-of_map P f (x ∷ xs) h = (h.0, All-of_map P f xs h.1)

-- no element passes a test that none passes, and back
pub none_pass : {X : Type 0} (p : X → Bool) (xs : List X) → list_any p xs ≡ false
    → AllByRecursion (λ x. p x ≡ false) xs
none_pass p [] h = tt
none_pass p (x ∷ xs) h = let parts : (p x ≡ false) × (list_any p xs ≡ false) =
    or_parts (p x) (list_any p xs) h in (parts.0, none_pass p xs parts.1)

-- and back
pub none_any : {X : Type 0} (p : X → Bool) (xs : List X) → AllByRecursion (λ x. p x ≡ false) xs
    → list_any p xs ≡ false
none_any p [] h = refl
none_any p (x ∷ xs) h = rw h.0 (none_any p xs h.1)

-- of lists in a row
pub All-flat_map : {X Y : Type 0} (P : Y → Type 0) (f : X → List Y) (xs : List X)
    → AllByRecursion (λ x. AllByRecursion P (f x)) xs → AllByRecursion P (flat_map f xs)
All-flat_map P f [] h = tt
All-flat_map P f (x ∷ xs) h = All-append P (f x) (flat_map f xs) h.0 (All-flat_map P f xs h.1)
