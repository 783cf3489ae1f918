-- Lists that grow by what comes of one element more.
use Rattle.std.proofs.Common.{◌≡◌, ◌∙◌, ℕ, ◌+◌, ◌<◌, List, [], ◌∷◌, ◌++◌, take}
use Rattle.std.proofs.Common.{get_or, length, Option, ap, sym}
use Rattle.std.specs.List.{filter_map}
use Rattle.std.proofs.lemmas.List.{take_more}
use Rattle.std.proofs.lemmas.List.Elements.{filter_map-append}

-- the elements so far, and the next
so_far : {X : Type 0} (xs : List X) (i : ℕ) (x : X) → i < length xs → x ≡ get_or xs i x
    → take (i + 1) xs ≡ take i xs ++ x ∷ []
so_far xs i x less is = take_more xs i x less ∙ ap (λ y. take i xs ++ y ∷ []) (sym is)

pub found_more : {X Y : Type 0} (h : X → Option Y) (xs : List X) (i : ℕ) (x : X) (old new : List Y)
    → i < length xs
    → x ≡ get_or xs i x
    → old ≡ filter_map h (take i xs) → new ≡ old ++ filter_map h (x ∷ [])
    → new ≡ filter_map h (take (i + 1) xs)
found_more h xs i x old new less is before grown =
    grown ∙ ap (λ o. o ++ filter_map h (x ∷ [])) before ∙ sym (filter_map-append h (take i xs) (x ∷ []))
    ∙ ap (filter_map h) (sym (so_far xs i x less is))
