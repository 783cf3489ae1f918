-- Views of a world's stores, one by one: each is that of a package or of a stray, and each package has one.
use Rattle.std.specs.Prelude.{◌≡◌, ◌⊎◌, ◌≤◌, Bool, true, false, cond, List, [], ◌∷◌, ◌++◌}
use Rattle.std.specs.Prelude.{refl, count_by}
use Rattle.std.specs.Prelude.{IsPermutation}
use Rattle.std.proofs.Common.{subst, arith, inl, inr}
use Rattle.std.proofs.lemmas.List.Elements.{All-from_recursion, recursion_from_All}
use Rattle.std.proofs.lemmas.List.Sums.{sum_by-append, sum_by-cons}
use Rattle.std.proofs.lemmas.List.Sorted.{All-permutation, IsPermutation-sym, sum_by-IsPermutation}
use Rattle.std.specs.List.{AllByRecursion, AllZip}
use Rattle.sheet_types.specs.World.{World, Package}
use Rattle.sheet_types.proofs.Same.{In, In-all, All-In, In-append, In-of_append}
use Rattle.sheet_types.proofs.Sums.{count-cons, count_none}
use Rattle.sheet_laws.specs.Laws.{StoreSight}
use Rattle.opening_laws_model.specs.Beside.{IsViewOfPackage, IsStrayView, AreViewsOfWorld}

-- ---- lists

-- an element of a list is one of a shuffled list
pub In-permuted : {X : Type 0} (x : X) (xs ys : List X) → IsPermutation xs ys → In x xs → In x ys
In-permuted x xs ys h i = All-In (λ z. In z ys) x xs (recursion_from_All (λ z. In z ys) xs
    (All-permutation (λ z. In z ys) ys xs (IsPermutation-sym xs ys h)
    (All-from_recursion (λ z. In z ys) ys (In-all ys)))) i

-- the partner of an element
pub zip_left : {A B : Type 0} (R : A → B → Type 0) (x : A) (xs : List A) (ys : List B) → AllZip R xs ys
    → In x xs
    → (y : B) × In y ys × R x y
zip_left R x [] ys h i = absurd i
zip_left R x (a ∷ xs) [] h i = absurd h
zip_left R x (a ∷ xs) (b ∷ ys) h i = elim i [
  | inl same ↦ (b, inl refl, subst (λ z. R z b) same h.0)
  | inr j ↦ let r = zip_left R x xs ys h.1 j in (r.0, inr r.1, r.2)
]

pub zip_right : {A B : Type 0} (R : A → B → Type 0) (y : B) (xs : List A) (ys : List B) → AllZip R xs ys
    → In y ys
    → (x : A) × In x xs × R x y
zip_right R y xs [] h i = absurd i
zip_right R y [] (b ∷ ys) h i = absurd h
zip_right R y (a ∷ xs) (b ∷ ys) h i = elim i [
  | inl same ↦ (a, inl refl, subst (λ z. R a z) same h.0)
  | inr j ↦ let r = zip_right R y xs ys h.1 j in (r.0, inr r.1, r.2)
]

-- where the partner of each that passes passes, no fewer of the partners do
pub zip_count_le : {A B : Type 0} (R : A → B → Type 0) (P : B → Type 0) (t : A → Bool) (u : B → Bool)
    → ((x : A) (y : B) → P y → R x y → t x ≡ true → u y ≡ true) → (xs : List A) (ys : List B)
    → AllByRecursion P ys
    → AllZip R xs ys → count_by t xs ≤ count_by u ys
zip_count_le R P t u f [] [] all h = omega arith
zip_count_le R P t u f [] (b ∷ ys) all h = absurd h
zip_count_le R P t u f (a ∷ xs) [] all h = absurd h
zip_count_le R P t u f (a ∷ xs) (b ∷ ys) all h =
    let more : count_by t xs ≤ count_by u ys = zip_count_le R P t u f xs ys all.1 h.1 in
    elim (t a) as (λ v. t a ≡ v → count_by t (a ∷ xs) ≤ count_by u (b ∷ ys)) [
      | true ↦ λ e. omega (arith, more, count-cons t a xs true e, count-cons u b ys true (f a b all.0 h.0 e))
      | false ↦ λ e. omega (arith, more, count-cons t a xs false e, sum_by-cons (λ z. cond (u z) 1 0) b ys)
    ] refl

-- ---- views

module _ (w : World) (views : List StoreSight) (of : AreViewsOfWorld views w) where
  -- the view of a package of the world
  pub record Seen (v : StoreSight) : Type 0 where
    pub «package» : Package
    pub live : In «package» w.packages
    pub is : IsViewOfPackage w v «package»

  pub seen_member : (v : StoreSight) → In v of.members → Seen v
  seen_member v i = let r = zip_left (IsViewOfPackage w) v of.members w.packages of.each i in record
      { «package» = r.0; live = r.1; is = r.2 }

  pub role : (v : StoreSight) → In v views → Seen v ⊎ IsStrayView w v
  role v i = elim (In-of_append v of.members of.others (In-permuted v views (of.members ++ of.others) of.all i)) [
    | inl m ↦ inl (seen_member v m)
    | inr o ↦ inr (All-In (IsStrayView w) v of.others of.beside o)
  ]

  pub from_members : (v : StoreSight) → In v of.members → In v views
  from_members v i = In-permuted v (of.members ++ of.others) views
      (IsPermutation-sym views (of.members ++ of.others) of.all) (In-append v of.members of.others (inl i))

  pub from_others : (v : StoreSight) → In v of.others → In v views
  from_others v i = In-permuted v (of.members ++ of.others) views
      (IsPermutation-sym views (of.members ++ of.others) of.all) (In-append v of.members of.others (inr i))

  -- each package has a view
  pub view_of : (p : Package) → In p w.packages → (v : StoreSight) × In v views × IsViewOfPackage w v p
  view_of p i = let r = zip_right (IsViewOfPackage w) p of.members w.packages of.each i in
      (r.0, from_members r.0 r.1, r.2)

  -- a test that no stray passes is passed by no more views than packages that it names
  pub count_views : (t : StoreSight → Bool) (u : Package → Bool) → AllByRecursion (λ v. t v ≡ false) of.others
      → ((v : StoreSight) (p : Package) → In p w.packages → IsViewOfPackage w v p → t v ≡ true
      → u p ≡ true)
      → count_by t views ≤ count_by u w.packages
  count_views t u none f = omega (
    arith,
    sum_by-IsPermutation (λ v. cond (t v) 1 0) views (of.members ++ of.others) of.all,
    sum_by-append (λ v. cond (t v) 1 0) of.members of.others,
    count_none t of.others none,
    zip_count_le (IsViewOfPackage w) (λ p. In p w.packages) t u f of.members w.packages (In-all w.packages) of.each,
  )
