-- Lists that a loop fills, with one element more.
use Rattle.std.specs.Prelude.{◌≡◌, ◌+◌, ◌<◌, ℕ, zero, suc, Bool, List, [], ◌∷◌, ◌++◌, map}
use Rattle.std.specs.Prelude.{filter, length, take}
use Rattle.std.proofs.Common.{sym, ap, subst, ◌∙◌, get_or, append_assoc, arith}
use Rattle.std.specs.List.{AllZip}
use Rattle.std.proofs.lemmas.List.{map-append, take_more}
use Rattle.std.proofs.lemmas.Slice.Zip.{all_zipped_more}
use Rattle.std.proofs.lemmas.List.Elements.{filter-append}
use Rattle.field_changes.proofs.Sets.{one_more}

-- what passes, behind what passed
pub filtered_more : {X : Type 0} (p : X → Bool) (xs : List X) (i : ℕ) (x : X) (now new : List X) → i < length xs
    → x ≡ get_or xs i x → now ≡ filter p (take i xs) → new ≡ now ++ filter p (x ∷ [])
    → new ≡ filter p (take (i + 1) xs)
filtered_more p xs i x now new lt is was step =
    step ∙ ap (λ l. l ++ filter p (x ∷ [])) was ∙ sym (filter-append p (take i xs) (x ∷ []))
    ∙ ap (filter p) (sym (one_more xs i x lt is))

-- and what was made of it
pub mapped_more : {X Y : Type 0} (f : X → Y) (p : X → Bool) (xs : List X) (i : ℕ) (x : X) (now new : List Y)
    → i < length xs → x ≡ get_or xs i x → now ≡ map f (filter p (take i xs))
    → new ≡ now ++ map f (filter p (x ∷ []))
    → new ≡ map f (filter p (take (i + 1) xs))
mapped_more f p xs i x now new lt is was step =
    step ∙ ap (λ l. l ++ map f (filter p (x ∷ []))) was ∙ sym
    (map-append f (filter p (take i xs)) (filter p (x ∷ [])))
    ∙ ap (map f) (sym (filter-append p (take i xs) (x ∷ [])))
    ∙ ap (λ l. map f (filter p l)) (sym (one_more xs i x lt is))

-- one more command, behind what was there
pub asked_more : {X C Y : Type 0} (f : C → Y) (g : X → C) (xs : List X) (i : ℕ) (x : X) (old now new : List Y)
    (y : Y)
    → i < length xs → x ≡ get_or xs i x → now ≡ old ++ map f (map g (take i xs)) → new ≡ now ++ y ∷ []
    → y ≡ f (g x)
    → new ≡ old ++ map f (map g (take (i + 1) xs))
asked_more f g xs i x old now new y lt is was step one =
    step ∙ ap (λ l. l ++ y ∷ []) was ∙ append_assoc old (map f (map g (take i xs))) (y ∷ [])
    ∙ ap (λ z. old ++ (map f (map g (take i xs)) ++ z ∷ [])) one
    ∙ ap (λ l. old ++ l) (sym (map-append f (map g (take i xs)) (g x ∷ [])))
    ∙ ap (λ l. old ++ map f l) (sym (map-append g (take i xs) (x ∷ [])))
    ∙ ap (λ l. old ++ map f (map g l)) (sym (one_more xs i x lt is))

-- the same of a list that is used up
pub asked_next : {X C Y : Type 0} (f : C → Y) (g : X → C) (all : List Y) (rest left : List X) (x : X)
    (now new : List Y) (y : Y) → rest ≡ x ∷ left → new ≡ now ++ y ∷ [] → y ≡ f (g x)
    → all ≡ now ++ map f (map g rest) → all ≡ new ++ map f (map g left)
asked_next f g all rest left x now new y is step one was =
    was ∙ ap (λ l. now ++ map f (map g l)) is
    ∙ ap (λ z. now ++ z ∷ map f (map g left)) (sym one)
    ∙ sym (append_assoc now (y ∷ []) (map f (map g left)))
    ∙ ap (λ l. l ++ map f (map g left)) (sym step)

-- one row more of those that a loop goes over, and what was made of it
pub zip_more : {A B : Type 0} (R : A → B → Type 0) (rows : List A) (i : ℕ) (d row : A) (made now : List B) (x : B)
    → i < length rows → row ≡ get_or rows i d → now ≡ made ++ x ∷ [] → AllZip R (take i rows) made
    → R row x
    → AllZip R (take (i + 1) rows) now
zip_more R rows i d row made now x less is pushed all one =
    let cut : take (i + 1) rows ≡ take i rows ++ row ∷ [] = take_more rows i d less
    ∙ ap (λ r. take i rows ++ r ∷ []) (sym is) in
    subst (λ l. AllZip R l now) (sym cut) (subst (AllZip R (take i rows ++ row ∷ [])) (sym pushed)
    (all_zipped_more R (take i rows) made row x all one))

-- four parts, one behind the other
pub four_parts : {C Y : Type 0} (f : C → Y) (a b c d : List C) (none one two three four : List Y) → none ≡ []
    → one ≡ none ++ map f a → two ≡ one ++ map f b → three ≡ two ++ map f c → four ≡ three ++ map f d
    → four ≡ map f (a ++ b ++ c ++ d)
four_parts f a b c d none one two three four z i j k l =
    l ∙ ap (λ x. x ++ map f d) (k ∙ ap (λ x. x ++ map f c) (j
    ∙ ap (λ x. x ++ map f b) (i ∙ ap (λ x. x ++ map f a) z)
    ∙ sym (map-append f a b)) ∙ sym (map-append f (a ++ b) c)) ∙ sym (map-append f (a ++ b ++ c) d)

-- what holds of each pair holds at each place
pub all_at : {A B : Type 0} (R : A → B → Type 0) (xs : List A) (ys : List B) (i : ℕ) (d : A) (e : B)
    → AllZip R xs ys
    → i < length xs → R (get_or xs i d) (get_or ys i e)
all_at R [] [] i d e all less = absurd (omega (arith, less))
all_at R [] (y ∷ ys) i d e all less = absurd all
all_at R (x ∷ xs) [] i d e all less = absurd all
all_at R (x ∷ xs) (y ∷ ys) zero d e all less = all.0
all_at R (x ∷ xs) (y ∷ ys) (suc i) d e all less = all_at R xs ys i d e all.1 (omega (arith, less))
