-- What a loop over a list has seen so far.
use Rattle.std.specs.Prelude.{◌≡◌, ℕ, ◌+◌, ◌<◌, ◌≤◌, Bool, true, false, List, [], ◌∷◌}
use Rattle.std.specs.Prelude.{◌++◌, map, filter, flat_map}
use Rattle.std.specs.Prelude.{length, take, refl}
use Rattle.std.proofs.Common.{sym, ap, ◌∙◌, get_or, arith}
use Rattle.std.proofs.Math.Seq.{take-length}
use Rattle.std.proofs.lemmas.List.{append-nil, take_more, map-append}
use Rattle.std.proofs.lemmas.List.Elements.{filter-append}
use Rattle.std.proofs.lemmas.Grind.{flat_map-append}

-- one more
pub taken_more : {X : Type 0} (xs : List X) (i : ℕ) (x : X) → i < length xs → x ≡ get_or xs i x
    → take i xs ++ x ∷ [] ≡ take (i + 1) xs
taken_more xs i x less is = ap (λ y. take i xs ++ y ∷ []) is ∙ sym (take_more xs i x less)

-- all
pub taken_all : {X : Type 0} (xs : List X) (i : ℕ) → i ≤ length xs → length xs ≤ i → take i xs ≡ xs
taken_all xs i most least = ap (λ n. take n xs) (omega (arith, most, least)) ∙ take-length xs

-- lists of each, with those of one more
pub flat_more : {X Y : Type 0} (f : X → List Y) (xs : List X) (i : ℕ) (x : X) (made now : List Y) → i < length xs
    → x ≡ get_or xs i x → made ≡ flat_map f (take i xs) → now ≡ made ++ f x
    → now ≡ flat_map f (take (i + 1) xs)
flat_more f xs i x made now less is before pushed =
    pushed ∙ ap (λ l. l ++ f x) before ∙ ap (λ l. flat_map f (take i xs) ++ l) (sym (append-nil (f x)))
    ∙ sym (flat_map-append f (take i xs) (x ∷ [])) ∙ ap (flat_map f) (taken_more xs i x less is)

-- what a test takes, with one more that passes
pub filter_taken : {X Y : Type 0} (t : X → Bool) (f : X → Y) (xs : List X) (i : ℕ) (x : X) (made now : List Y)
    → i < length xs → x ≡ get_or xs i x → made ≡ map f (filter t (take i xs)) → now ≡ made ++ f x ∷ []
    → t x ≡ true
    → now ≡ map f (filter t (take (i + 1) xs))
filter_taken t f xs i x made now less is before pushed passes =
    let one : filter t (x ∷ []) ≡ x ∷ [] = rw passes refl in
    pushed ∙ ap (λ l. l ++ f x ∷ []) before ∙ ap (λ l. map f (filter t (take i xs)) ++ map f l) (sym one)
    ∙ sym (map-append f (filter t (take i xs)) (filter t (x ∷ [])))
    ∙ ap (map f) (sym (filter-append t (take i xs) (x ∷ [])))
    ∙ ap (λ l. map f (filter t l)) (taken_more xs i x less is)

-- and with one more that does not
pub filter_left : {X Y : Type 0} (t : X → Bool) (f : X → Y) (xs : List X) (i : ℕ) (x : X) (made : List Y)
    → i < length xs → x ≡ get_or xs i x → made ≡ map f (filter t (take i xs)) → t x ≡ false
    → made ≡ map f (filter t (take (i + 1) xs))
filter_left t f xs i x made less is before fails =
    let none : filter t (x ∷ []) ≡ [] = rw fails refl in
    before ∙ ap (map f) (sym (append-nil (filter t (take i xs))) ∙ ap (λ l. filter t (take i xs) ++ l) (sym none)
    ∙ sym (filter-append t (take i xs) (x ∷ [])) ∙ ap (filter t) (taken_more xs i x less is))
