-- The last that passes, of a list with one more.
use Rattle.std.specs.Prelude.{◌≡◌, Bool, true, false, cond, List, [], ◌∷◌, ◌++◌, Option, Some, filter}
use Rattle.std.specs.Prelude.{option_map, refl}
use Rattle.std.proofs.Common.{sym, ap, ◌∙◌}
use Rattle.std.proofs.lemmas.List.{append-nil}
use Rattle.std.proofs.lemmas.List.Elements.{filter-append}
use Rattle.sheet_types.specs.Ordered.{last_or, last_of, last_where}

or_snoc : {X : Type 0} (y : X) (ys : List X) (x : X) → last_or y (ys ++ x ∷ []) ≡ x
or_snoc y [] x = refl
or_snoc y (z ∷ zs) x = or_snoc z zs x

of_snoc : {X : Type 0} (ys : List X) (x : X) → last_of (ys ++ x ∷ []) ≡ Some x
of_snoc [] x = refl
of_snoc (y ∷ ys) x = ap Some (or_snoc y ys x)

pub last_snoc : {X Y : Type 0} (f : X → Y) (p : X → Bool) (xs : List X) (x : X)
    → option_map f (last_where p (xs ++ x ∷ [])) ≡ cond (p x) (Some (f x)) (option_map f (last_where p xs))
last_snoc f p xs x =
    ap (λ l. option_map f (last_of l)) (filter-append p xs (x ∷ []))
    ∙ elim (p x) as (λ b. option_map f (last_of (filter p xs ++ cond b (x ∷ []) []))
    ≡ cond b (Some (f x)) (option_map f (last_where p xs))) [
      | true ↦ ap (option_map f) (of_snoc (filter p xs) x)
      | false ↦ ap (λ l. option_map f (last_of l)) (append-nil (filter p xs))
    ]
