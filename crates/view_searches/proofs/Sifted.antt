-- What is made of one more element of a list.
use Rattle.std.proofs.Common.{◌≡◌, ◌∙◌, ◌<◌, ◌+◌, ◌++◌, ◌∷◌, [], ℕ, List, Option}
use Rattle.std.proofs.Common.{Some, None, Bool, true, false, refl}
use Rattle.std.proofs.Common.{ap, sym, subst, length, take, get_or, map, filter, cond, append_assoc}
use Rattle.std.specs.Prelude.{flat_map, option_map, MatchOption}
use Rattle.std.specs.Bool.{then_some}
use Rattle.std.proofs.lemmas.Grind.{flat_map-append}
use Rattle.std.proofs.lemmas.List.{append-nil, map-append, take_more}
use Rattle.std.proofs.lemmas.List.Concat.{flat_map-cons}
use Rattle.sheet_types.specs.World.{is_item_kind}
use Rattle.sheet_types.specs.declared.receipt.Moved.{Moved}
use Rattle.view_searches.specs.Searches.{added_from, identities_of}

-- ---- a list that is sifted and mapped

sifted_by : (p : Moved → Bool) (f : Moved → List ℕ) (y : Moved) (ys zs : List Moved) (v : Bool)
    → map f (filter p (ys ++ zs)) ≡ map f (filter p ys) ++ map f (filter p zs)
    → map f (cond v (y ∷ filter p (ys ++ zs)) (filter p (ys ++ zs)))
    ≡ map f (cond v (y ∷ filter p ys) (filter p ys))
    ++ map f (filter p zs)
sifted_by p f y ys zs true e = ap (λ l. f y ∷ l) e
sifted_by p f y ys zs false e = e

sifted : (p : Moved → Bool) (f : Moved → List ℕ) (xs zs : List Moved)
    → map f (filter p (xs ++ zs)) ≡ map f (filter p xs) ++ map f (filter p zs)
sifted p f [] zs = refl
sifted p f (y ∷ ys) zs = sifted_by p f y ys zs (p y) (sifted p f ys zs)

pub identities_more : (before : List (List ℕ)) (xs : List Moved) (i : ℕ) (x : Moved) → i < length xs
    → x ≡ get_or xs i x
    → (before ++ identities_of (take i xs)) ++ identities_of (x ∷ []) ≡ before ++ identities_of (take (i + 1) xs)
identities_more before xs i x within is =
    append_assoc before (identities_of (take i xs)) (identities_of (x ∷ []))
    ∙ ap (λ l. before ++ l)
    (sym (sifted (λ (m : Moved). is_item_kind m.kind) (λ (m : Moved). m.base) (take i xs) (x ∷ []))
    ∙ ap identities_of (ap (λ z. take i xs ++ z ∷ []) is ∙ sym (take_more xs i x within)))

-- ---- the lists of elements, in turn

pub flat_taken : {X Y : Type 0} (f : X → List Y) (xs : List X) (i : ℕ) (x : X) → i < length xs
    → x ≡ get_or xs i x
    → flat_map f (take i xs) ++ f x ≡ flat_map f (take (i + 1) xs)
flat_taken f xs i x within is =
    ap (λ l. flat_map f (take i xs) ++ l) (sym (append-nil (f x)))
    ∙ sym (flat_map-append f (take i xs) (x ∷ []))
    ∙ ap (flat_map f) (ap (λ z. take i xs ++ z ∷ []) is ∙ sym (take_more xs i x within))

pub nothing_more : {Y : Type 0} (xs : List Y) → xs ++ [] ≡ xs
nothing_more xs = append-nil xs

-- ---- a text where it is to be, and none elsewhere

pub text_or_none : {T : Type 0} (bytes : T → List ℕ) (found : Option T) (b : Bool) (text : List ℕ)
    → MatchOption found (b ≡ false) (λ t. (b ≡ true) × (bytes t ≡ text))
    → option_map bytes found ≡ then_some b text
text_or_none bytes None b text is = sym (ap (λ v. then_some v text) is)
text_or_none bytes (Some t) b text is = ap Some is.1 ∙ sym (ap (λ v. then_some v text) is.0)

-- ---- one thing, and one receipt

alone_by : (v : Bool) (m : Moved) → v ≡ true → map (λ (t : Moved). t.base) (cond v (m ∷ []) []) ≡ m.base
    ∷ []
alone_by true m is = refl
alone_by false m is = absurd (cc)

pub item_alone : (m : Moved) → is_item_kind m.kind ≡ true → identities_of (m ∷ []) ≡ m.base ∷ []
item_alone m is = alone_by (is_item_kind m.kind) m is

pub added_none : (source : Option (List ℕ)) (things : List Moved) → source ≡ None
    → added_from source things ≡ identities_of things
added_none None things is = refl
added_none (Some p) things is = absurd (cc)
