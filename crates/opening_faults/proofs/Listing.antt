-- Lists that grow by one, as loops make them.
use Rattle.std.specs.Prelude.{◌≡◌, ℕ, zero, suc, ◌<◌, Bool, true, false, cond, ◌&&◌, ◌||◌, List}
use Rattle.std.specs.Prelude.{[], ◌∷◌, ◌++◌, map}
use Rattle.std.specs.Prelude.{filter, flat_map, length, refl, unwrap_or, slice_get}
use Rattle.std.proofs.Common.{sym, ap, ◌∙◌, arith, append_assoc, get_or}
use Rattle.std.proofs.lemmas.List.Folds.{list_any-append}
use Rattle.std.proofs.lemmas.List.{append-nil, map-append}
use Rattle.std.proofs.lemmas.List.Elements.{filter-append}
use Rattle.std.proofs.lemmas.Grind.{flat_map-append}
use Rattle.std.specs.List.{list_any}
use Rattle.sheet_types.proofs.Basics.{or-false}

pub or_assoc : (a b c : Bool) → ((a || b) || c) ≡ (a || (b || c))
or_assoc true b c = refl
or_assoc false b c = refl

-- a test of those so far, and of one more
pub any_more : {X : Type 0} (p : X → Bool) (old mid new : Bool) (xs more : List X) (x : X) → more ≡ xs ++ x ∷ []
    → mid ≡ (old || list_any p xs) → new ≡ (mid || p x) → new ≡ (old || list_any p more)
any_more p old mid new xs more x is was step =
    step ∙ ap (λ b. b || p x) was ∙ or_assoc old (list_any p xs) (p x)
    ∙ ap (λ b. old || b) (ap (λ b. list_any p xs || b) (sym (or-false (p x)))
    ∙ sym (list_any-append p xs (x ∷ []))
    ∙ ap (list_any p) (sym is))

pub map_more : {X Y : Type 0} (f : X → Y) (xs more : List X) (x : X) → more ≡ xs ++ x ∷ []
    → map f more ≡ map f xs ++ f x ∷ []
map_more f xs more x is = ap (map f) is ∙ map-append f xs (x ∷ [])

-- what passes, with one more
pub filter_more : {X : Type 0} (p : X → Bool) (xs more : List X) (x : X) → more ≡ xs ++ x ∷ []
    → filter p more ≡ filter p xs ++ cond (p x) (x ∷ []) []
filter_more p xs more x is = ap (filter p) is ∙ filter-append p xs (x ∷ [])

-- a test of what those that pass list, with one more
pub any_taken_more : {X Y : Type 0} (f : X → List Y) (t : X → Bool) (p : Y → Bool) (old mid new : Bool)
    (xs more : List X) (x : X) → more ≡ xs ++ x ∷ [] → mid ≡ (old || list_any p (flat_map f (filter t xs)))
    → new ≡ (mid || (t x && list_any p (f x)))
    → new ≡ (old || list_any p (flat_map f (filter t more)))
any_taken_more f t p old mid new xs more x is was step =
    step ∙ ap (λ b. b || (t x && list_any p (f x))) was ∙ or_assoc old (list_any p (flat_map f (filter t xs)))
    (t x && list_any p (f x))
    ∙ ap (λ b. old || b) (sym (ap (λ ys. list_any p (flat_map f ys)) (filter_more t xs more x is)
    ∙ ap (list_any p) (flat_map-append f (filter t xs) (cond (t x) (x ∷ []) []))
    ∙ list_any-append p (flat_map f (filter t xs)) (flat_map f (cond (t x) (x ∷ []) []))
    ∙ ap (λ b. list_any p (flat_map f (filter t xs)) || b) (last (t x))))
  where
    last : (v : Bool) → list_any p (flat_map f (cond v (x ∷ []) [])) ≡ (v && list_any p (f x))
    last true = list_any-append p (f x) [] ∙ or-false (list_any p (f x))
    last false = refl

-- what those that pass list, with one more
pub taken_more : {X Y : Type 0} (f : X → List Y) (t : X → Bool) (mid new : List Y) (xs more : List X) (x : X)
    → more ≡ xs ++ x ∷ [] → mid ≡ flat_map f (filter t xs) → new ≡ mid ++ cond (t x) (f x) []
    → new ≡ flat_map f (filter t more)
taken_more f t mid new xs more x is was step =
    step ∙ ap (λ ys. ys ++ cond (t x) (f x) []) was
    ∙ sym (ap (flat_map f) (filter_more t xs more x is) ∙ flat_map-append f (filter t xs) (cond (t x) (x ∷ []) [])
    ∙ ap (λ ys. flat_map f (filter t xs) ++ ys) (last (t x)))
  where
    last : (v : Bool) → flat_map f (cond v (x ∷ []) []) ≡ cond v (f x) []
    last true = append-nil (f x)
    last false = refl

mapped_at : {X Y : Type 0} (f : X → Y) (x : X) (y : Y) (zs : List X) (j : ℕ) → j < length zs
    → unwrap_or (slice_get (map f zs) j) y ≡ f (get_or zs j x)
mapped_at f x y [] j h = absurd (omega (arith, h))
mapped_at f x y (z ∷ zs) zero h = refl
mapped_at f x y (z ∷ zs) (suc j) h = mapped_at f x y zs j (omega (arith, h))

-- what a list made by a function has at a place
pub at_place : {X Y : Type 0} (f : X → Y) (xs : List X) (ys : List Y) (i : ℕ) (x : X) (y : Y) → ys ≡ map f xs
    → i < length xs → x ≡ get_or xs i x → unwrap_or (slice_get ys i) y ≡ f x
at_place f xs ys i x y is lt at = ap (λ zs. unwrap_or (slice_get zs i) y) is ∙ mapped_at f x y xs i lt
    ∙ ap f (sym at)

-- what passes, each turned into another, behind others, with one more
pub passing_more : {X Y : Type 0} (f : X → Y) (p : X → Bool) (old mid new : List Y) (xs more : List X) (x : X)
    → more ≡ xs ++ x ∷ [] → mid ≡ old ++ map f (filter p xs) → new ≡ mid ++ cond (p x) (f x ∷ []) []
    → new ≡ old ++ map f (filter p more)
passing_more f p old mid new xs more x is was step =
    step ∙ ap (λ ys. ys ++ cond (p x) (f x ∷ []) []) was ∙ append_assoc old (map f (filter p xs))
    (cond (p x) (f x ∷ []) [])
    ∙ ap (λ ys. old ++ ys) (sym (ap (map f) (filter_more p xs more x is)
    ∙ map-append f (filter p xs) (cond (p x) (x ∷ []) []) ∙ ap (λ ys. map f (filter p xs) ++ ys) (last (p x))))
  where
    last : (v : Bool) → map f (cond v (x ∷ []) []) ≡ cond v (f x ∷ []) []
    last true = refl
    last false = refl

-- a list made by a function, with one more
pub made_more : {X Y : Type 0} (f : X → Y) (mid new : List Y) (xs more : List X) (x : X) (y : Y)
    → more ≡ xs ++ x ∷ []
    → mid ≡ map f xs → y ≡ f x → new ≡ mid ++ y ∷ [] → new ≡ map f more
made_more f mid new xs more x y is was one step = step ∙ ap (λ ys. ys ++ y ∷ []) was
    ∙ ap (λ z. map f xs ++ z ∷ []) one ∙ sym (map_more f xs more x is)

pub map_itself : {X : Type 0} (xs : List X) → map (λ x. x) xs ≡ xs
map_itself [] = refl
map_itself (x ∷ xs) = ap (λ ys. x ∷ ys) (map_itself xs)
