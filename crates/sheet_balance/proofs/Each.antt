-- What holds of each element, in both directions, and what elements that stand beside each other have in common.
use Rattle.std.specs.Prelude.{◌≡◌, ◌↔◌, ◌++◌, ⊤, List, [], ◌∷◌, flat_map, map, refl}
use Rattle.std.proofs.Common.{ap, ◌∙◌}
use Rattle.std.specs.List.{AllByRecursion, AllZip}
use Rattle.sheet_types.proofs.Every.{All-each, All-left, All-right, All-flat_map, All-map, All-of_map}

-- a fact of each element of each part is one of each element
pub all_flat : {X Y : Type 0} (P : Y → Type 0) (f : X → List Y) (xs : List X)
    → AllByRecursion P (flat_map f xs) ↔ AllByRecursion (λ x. AllByRecursion P (f x)) xs
all_flat {X = X} P f xs = (apart xs, All-flat_map P f xs)
  where
    apart : (zs : List X) → AllByRecursion P (flat_map f zs) → AllByRecursion (λ x. AllByRecursion P (f x)) zs
    apart [] h = tt
    apart (z ∷ zs) h = (All-left P (f z) (flat_map f zs) h, apart zs (All-right P (f z) (flat_map f zs) h))

pub all_map : {X Y : Type 0} (P : Y → Type 0) (f : X → Y) (xs : List X)
    → AllByRecursion P (map f xs) ↔ AllByRecursion (λ x. P (f x)) xs
all_map P f xs = (All-of_map P f xs, All-map P f xs)

-- one fact is another, of each of which a third holds
pub all_where : {X : Type 0} (R P Q : X → Type 0) → ((x : X) → R x → P x ↔ Q x) → (xs : List X)
    → AllByRecursion R xs → AllByRecursion P xs ↔ AllByRecursion Q xs
all_where R P Q f [] r = ((λ _. tt), (λ _. tt))
all_where R P Q f (x ∷ xs) r =
    let one = f x r.0 in
    let more = all_where R P Q f xs r.1 in
    ((λ h. (one.0 h.0, more.0 h.1)), (λ h. (one.1 h.0, more.1 h.1)))

pub all_same : {X : Type 0} (P Q : X → Type 0) → ((x : X) → P x ↔ Q x) → (xs : List X)
    → AllByRecursion P xs ↔ AllByRecursion Q xs
all_same P Q f [] = ((λ _. tt), (λ _. tt))
all_same P Q f (x ∷ xs) =
    let one = f x in
    let more = all_same P Q f xs in
    ((λ h. (one.0 h.0, more.0 h.1)), (λ h. (one.1 h.0, more.1 h.1)))

-- ---- two lists, place by place

-- a fact of each is one of each that stands beside it, of which another holds
pub seen_where : {X Y : Type 0} (R : X → Y → Type 0) (K : Y → Type 0) (P : X → Type 0) (Q : Y → Type 0)
    → ((x : X) (y : Y) → R x y → K y → P x ↔ Q y) → (xs : List X) (ys : List Y) → AllZip R xs ys
    → AllByRecursion K ys → AllByRecursion P xs ↔ AllByRecursion Q ys
seen_where R K P Q f [] [] h r = ((λ _. tt), (λ _. tt))
seen_where R K P Q f [] (y ∷ ys) h r = absurd h
seen_where R K P Q f (x ∷ xs) [] h r = absurd h
seen_where R K P Q f (x ∷ xs) (y ∷ ys) h r =
    let one = f x y h.0 r.0 in
    let more = seen_where R K P Q f xs ys h.1 r.1 in
    ((λ k. (one.0 k.0, more.0 k.1)), (λ k. (one.1 k.0, more.1 k.1)))

-- a fact of each is one of each that stands beside it
pub all_seen : {X Y : Type 0} (R : X → Y → Type 0) (P : X → Type 0) (Q : Y → Type 0)
    → ((x : X) (y : Y) → R x y → P x ↔ Q y) → (xs : List X) (ys : List Y) → AllZip R xs ys
    → AllByRecursion P xs ↔ AllByRecursion Q ys
all_seen R P Q f xs ys h = seen_where R (λ _. ⊤) P Q (λ x y k _. f x y k) xs ys h (All-each (λ _. ⊤) (λ _. tt) ys)

-- what each is made of is what those beside it are made of
pub flat_seen : {X Y Z : Type 0} (R : X → Y → Type 0) (f : X → List Z) (g : Y → List Z)
    → ((x : X) (y : Y) → R x y → f x ≡ g y) → (xs : List X) (ys : List Y) → AllZip R xs ys
    → flat_map f xs ≡ flat_map g ys
flat_seen R f g same [] [] h = refl
flat_seen R f g same [] (y ∷ ys) h = absurd h
flat_seen R f g same (x ∷ xs) [] h = absurd h
flat_seen R f g same (x ∷ xs) (y ∷ ys) h =
    ap (λ zs. zs ++ flat_map f xs) (same x y h.0) ∙ ap (λ zs. g y ++ zs) (flat_seen R f g same xs ys h.1)

-- what stands beside the second of three stands beside the third
pub zip_on : {X Y Z : Type 0} (R : X → Y → Type 0) (S : Y → Z → Type 0) (T : X → Z → Type 0)
    → ((x : X) (y : Y) (z : Z) → R x y → S y z → T x z) → (xs : List X) (ys : List Y) (zs : List Z)
    → AllZip R xs ys → AllZip S ys zs → AllZip T xs zs
zip_on R S T f [] [] [] h k = tt
zip_on R S T f [] [] (z ∷ zs) h k = absurd k
zip_on R S T f [] (y ∷ ys) zs h k = absurd h
zip_on R S T f (x ∷ xs) [] zs h k = absurd h
zip_on R S T f (x ∷ xs) (y ∷ ys) [] h k = absurd k
zip_on R S T f (x ∷ xs) (y ∷ ys) (z ∷ zs) h k = (f x y z h.0 k.0, zip_on R S T f xs ys zs h.1 k.1)
