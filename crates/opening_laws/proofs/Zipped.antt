-- Pairs of two lists, in another order and in parts.
use Rattle.std.specs.Prelude.{◌≡◌, List, [], ◌∷◌, ◌++◌, map, refl, IsPermutation}
use Rattle.std.proofs.Common.{sym, ap, subst}
use Rattle.std.proofs.lemmas.List.Sorted.{IsPermutation-map}
use Rattle.std.specs.List.{AllByRecursion, AllZip}
use Rattle.sqlite_trees.proofs.ListLemmas.{pull_back}

module _ {A B : Type 0} (R : A → B → Type 0) where
  record Pair : Type 0 where
    left : A
    right : B
    is : R left right

  abbrev lefts : List Pair → List A
  lefts ps = map (λ p. p.left) ps

  abbrev rights : List Pair → List B
  rights ps = map (λ p. p.right) ps

  -- the pairs of two lists
  pairs_of : (xs : List A) (ys : List B) → AllZip R xs ys → (ps : List Pair) × (xs ≡ lefts ps)
      × (ys ≡ rights ps)
  pairs_of [] [] h = ([], refl, refl)
  pairs_of [] (y ∷ ys) h = absurd h
  pairs_of (x ∷ xs) [] h = absurd h
  pairs_of (x ∷ xs) (y ∷ ys) h =
      let more = pairs_of xs ys h.1 in
      (record { left = x; right = y; is = h.0 } ∷ more.0, ap (λ l. x ∷ l) more.1, ap (λ l. y ∷ l) more.2)

  zip_of : (ps : List Pair) → AllZip R (lefts ps) (rights ps)
  zip_of [] = tt
  zip_of (p ∷ ps) = (p.is, zip_of ps)

  -- one list in another order, and the other in the same
  pub zip_permuted : (xs us : List A) (ys : List B) → IsPermutation xs us → AllZip R xs ys → (vs : List B)
      × IsPermutation ys vs × AllZip R us vs
  zip_permuted xs us ys moved h =
      let ps = pairs_of xs ys h in
      let qs : (qs : List Pair) × IsPermutation ps.0 qs × (us ≡ lefts qs) =
      pull_back (λ p. p.left) xs us moved ps.0 ps.1 in (
        rights qs.0,
        subst (λ l. IsPermutation l (rights qs.0)) (sym ps.2) (IsPermutation-map (λ p. p.right) ps.0 qs.0 qs.1),
        subst (λ l. AllZip R l (rights qs.0)) (sym qs.2) (zip_of qs.0),
      )

  -- in two parts
  pub zip_parts : (xs us : List A) (ys : List B) → AllZip R (xs ++ us) ys → (vs : List B) × (ws : List B)
      × (ys ≡ vs ++ ws) × AllZip R xs vs × AllZip R us ws
  zip_parts [] us ys h = ([], ys, refl, tt, h)
  zip_parts (x ∷ xs) us [] h = absurd h
  zip_parts (x ∷ xs) us (y ∷ ys) h =
      let more = zip_parts xs us ys h.1 in
      (y ∷ more.0, more.1, ap (λ l. y ∷ l) more.2, (h.0, more.3), more.4)

-- what two relations in turn come to
pub zip_through : {A B C : Type 0} (R : A → B → Type 0) (Q : A → C → Type 0) (P : C → Type 0)
    (T : B → C → Type 0)
    → ((a : A) (b : B) (c : C) → R a b → P c → Q a c → T b c)
    → (as' : List A) (bs : List B) (cs : List C) → AllByRecursion P cs → AllZip R as' bs → AllZip Q as' cs
    → AllZip T bs cs
zip_through R Q P T f [] [] [] p r q = tt
zip_through R Q P T f [] [] (c ∷ cs) p r q = absurd q
zip_through R Q P T f [] (b ∷ bs) cs p r q = absurd r
zip_through R Q P T f (a ∷ as') [] cs p r q = absurd r
zip_through R Q P T f (a ∷ as') (b ∷ bs) [] p r q = absurd q
zip_through R Q P T f (a ∷ as') (b ∷ bs) (c ∷ cs) p r q = (
  f a b c r.0 p.0 q.0,
  zip_through R Q P T f as' bs cs p.1
      r.1 q.1,
)

-- a fact of the first of each pair gives one of the second
pub zip_all : {A B : Type 0} (R : A → B → Type 0) (P : A → Type 0) (T : B → Type 0)
    → ((a : A) (b : B) → R a b → P a → T b) → (as' : List A) (bs : List B) → AllByRecursion P as'
    → AllZip R as' bs
    → AllByRecursion T bs
zip_all R P T f [] [] p r = tt
zip_all R P T f [] (b ∷ bs) p r = absurd r
zip_all R P T f (a ∷ as') [] p r = absurd r
zip_all R P T f (a ∷ as') (b ∷ bs) p r = (f a b r.0 p.0, zip_all R P T f as' bs p.1 r.1)
