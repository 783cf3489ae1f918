-- Lists that requests take apart and put together.
use Rattle.std.specs.Prelude.{◌≡◌, ◌⊎◌, ℕ, ◌+◌, ◌≤◌, Bool, true, false, cond, not, ◌||◌}
use Rattle.std.specs.Prelude.{List, [], ◌∷◌, ◌++◌, map}
use Rattle.std.specs.Prelude.{filter, refl, bytes_eq, sum_by, count_by, IsPermutation, Contains}
use Rattle.std.proofs.Common.{sym, ap, subst, ◌∙◌, inl, inr, arith}
use Rattle.std.proofs.lemmas.List.Elements.{All-from_recursion}
use Rattle.std.proofs.lemmas.List.Sorted.{Contains-permutation}
use Rattle.std.proofs.lemmas.List.Sums.{sum_by-cons}
use Rattle.std.specs.List.{AllByRecursion}
use Rattle.sheet_types.specs.Ordered.{put, arranged, without, is_among, IsArranged}
use Rattle.sheet_types.specs.declared.command.Command.{Command}
use Rattle.sheet_types.specs.declared.command.Item.{Item}
use Rattle.sheet_types.specs.declared.command.Relation.{Relation}
use Rattle.sheet_types.specs.declared.command.Request.{Request}
use Rattle.sheet_types.proofs.Every.{All-weaker}
use Rattle.sheet_types.proofs.Order.{All-put, All-of_put, All-arranged, All-of_arranged, sum_by-put, arranged_counts}
use Rattle.sheet_types.proofs.Same.{In, In-all, All-In, Contains-In, same_list}
use Rattle.field_run_laws.specs.Lists.{items_after, links_after, items_through, links_through}

-- ---- elements

pub contained : {X : Type 0} (xs : List X) (x : X) → Contains xs x → In x xs
contained xs x h = subst (λ y. In y xs) h.2 ((All-from_recursion (λ y. In y xs) xs (In-all xs)) h.0 x h.1)

-- elements stay elements in another order
pub moved : {X : Type 0} (x : X) (xs ys : List X) → IsPermutation xs ys → In x xs → In x ys
moved x xs ys h i = contained ys x (Contains-permutation xs ys x h (Contains-In x xs i))

pub in_arranged : {X : Type 0} (key : X → List ℕ) (xs : List X) (x : X) → In x (arranged key xs) → In x xs
in_arranged key xs x i = All-In (λ y. In y xs) x (arranged key xs) (All-arranged key (λ y. In y xs) xs (In-all xs)) i

pub into_arranged : {X : Type 0} (key : X → List ℕ) (xs : List X) (x : X) → In x xs → In x (arranged key xs)
into_arranged key xs x i = All-In (λ y. In y (arranged key xs)) x xs
    (All-of_arranged key (λ y. In y (arranged key xs)) xs (In-all (arranged key xs))) i

-- what a test takes
pub of_filter : {X : Type 0} (t : X → Bool) (x : X) (xs : List X) → In x (filter t xs) → In x xs × (t x ≡ true)
of_filter t x [] i = absurd i
of_filter t x (y ∷ ys) i =
    elim (t y) as (λ v. t y ≡ v → In x (cond v (y ∷ filter t ys) (filter t ys)) → In x (y ∷ ys)
    × (t x ≡ true)) [
      | true ↦ λ e j. elim j [
        | inl same ↦ (inl same, ap t (sym same) ∙ e)
        | inr later ↦ let it =
            of_filter t x ys later in (inr it.0, it.1)
      ]
      | false ↦ λ _ j. let it = of_filter t x ys j in (inr it.0, it.1)
    ] refl i

-- a list that is put in order has no key twice
pub one_list : {X : Type 0} (key : X → List ℕ) (xs ys : List X) → IsArranged key xs
    → ((k : List ℕ) → count_by (λ y. bytes_eq (key y) k) ys ≤ 1)
    → ((x : X) → In x xs → In x ys) → ((x : X) → In x ys → In x xs) → xs ≡ arranged key ys
one_list key xs ys order alone to fro =
    same_list key xs (arranged key ys) order (arranged_counts key ys alone) (λ x i. into_arranged key ys x (to x i))
    (λ x i. fro x (in_arranged key ys x i))

-- ---- one step for each element

abbrev pub folded : {X L : Type 0} → (X → L → L) → List X → L → L
folded step [] l = l
folded step (x ∷ xs) l = folded step xs (step x l)

pub folded_same : {X L : Type 0} (step : X → L → L) → ((x : X) (l : L) → step x l ≡ l)
    → (xs : List X) (l : L)
    → folded step xs l ≡ l
folded_same step same [] l = refl
folded_same step same (x ∷ xs) l = folded_same step same xs (step x l) ∙ same x l

module _ (of : Command → Request) (made : (c : Command) → (of c).command ≡ c) where
  pub items_folded : {X : Type 0} (command : X → Command) (step : X → List Item → List Item)
      → ((x : X) (l : List Item) → items_after (command x) l ≡ step x l)
      → (xs : List X) (l : List Item) → items_through (map of (map command xs)) l ≡ folded step xs l
  items_folded command step is [] l = refl
  items_folded command step is (x ∷ xs) l =
      ap (items_through (map of (map command xs))) (ap (λ c. items_after c l) (made (command x)) ∙ is x l)
      ∙ items_folded command step is xs (step x l)

  pub links_folded : {X : Type 0} (command : X → Command) (step : X → List Relation → List Relation)
      → ((x : X) (l : List Relation) → links_after (command x) l ≡ step x l)
      → (xs : List X) (l : List Relation) → links_through (map of (map command xs)) l ≡ folded step xs l
  links_folded command step is [] l = refl
  links_folded command step is (x ∷ xs) l =
      ap (links_through (map of (map command xs))) (ap (λ c. links_after c l) (made (command x)) ∙ is x l)
      ∙ links_folded command step is xs (step x l)

pub items_both : (xs ys : List Request) (l : List Item) → items_through (xs ++ ys) l
    ≡ items_through ys (items_through xs l)
items_both [] ys l = refl
items_both (x ∷ xs) ys l = items_both xs ys (items_after x.command l)

pub links_both : (xs ys : List Request) (l : List Relation) → links_through (xs ++ ys) l
    ≡ links_through ys (links_through xs l)
links_both [] ys l = refl
links_both (x ∷ xs) ys l = links_both xs ys (links_after x.command l)

-- ---- elements of some keys go, one after the other

module _ {X Y : Type 0} (key : X → List ℕ) (k : Y → List ℕ) where
  without_two : (y : Y) (ks : List (List ℕ)) (l : List X) → without key ks (without key (k y ∷ []) l)
      ≡ without key (k y ∷ ks) l
  without_two y ks [] = refl
  without_two y ks (x ∷ xs) =
      elim (bytes_eq (k y) (key x)) as (λ v. without key ks (cond (not (v || false))
      (x ∷ without key (k y ∷ []) xs)
      (without key (k y ∷ []) xs)) ≡ cond (not (v || is_among ks (key x))) (x ∷ without key (k y ∷ ks) xs)
      (without key (k y ∷ ks) xs)) [
        | true ↦ without_two y ks xs
        | false ↦ ap (λ l. cond (not (is_among ks (key x))) (x ∷ l) l) (without_two y ks xs)
      ]

  pub folded_without : (ys : List Y) (l : List X) → folded (λ y m. without key (k y ∷ []) m) ys l
      ≡ without key (map k ys) l
  folded_without [] l = sym (all_stay l)
    where
      all_stay : (m : List X) → without key [] m ≡ m
      all_stay [] = refl
      all_stay (x ∷ m) = ap (λ z. x ∷ z) (all_stay m)
  folded_without (y ∷ ys) l = folded_without ys (without key (k y ∷ []) l) ∙ without_two y (map k ys) l

-- ---- elements come in, one after the other

module _ {X : Type 0} (key : X → List ℕ) where
  abbrev pub all_put : List X → List X → List X
  all_put xs l = folded (put key) xs l

  pub put_all : (P : X → Type 0) (xs l : List X) → AllByRecursion P xs → AllByRecursion P l
      → AllByRecursion P (all_put xs l)
  put_all P [] l a b = b
  put_all P (x ∷ xs) l a b = put_all P xs (put key x l) a.1 (All-put key P x l a.0 b)

  pub of_put_all : (P : X → Type 0) (xs l : List X) → AllByRecursion P (all_put xs l) → AllByRecursion P xs
      × AllByRecursion P l
  of_put_all P [] l h = (tt, h)
  of_put_all P (x ∷ xs) l h =
      let it : AllByRecursion P xs × AllByRecursion P (put key x l) = of_put_all P xs (put key x l) h in
      let parts : P x × AllByRecursion P l = All-of_put key P x l it.1 in
      ((parts.0, it.0), parts.1)

  -- an element is one of those that came in, or one that was there
  pub in_put : (x : X) (xs l : List X) → In x (all_put xs l) → In x xs ⊎ In x l
  in_put x xs l i = All-In (λ y. In y xs ⊎ In y l) x (all_put xs l)
      (put_all (λ y. In y xs ⊎ In y l) xs l (All-weaker (λ y. In y xs) (λ y. In y xs ⊎ In y l) (λ y j. inl j) xs
      (In-all xs)) (All-weaker (λ y. In y l) (λ y. In y xs ⊎ In y l) (λ y j. inr j) l (In-all l))) i

  pub into_put : (x : X) (xs l : List X) → In x xs ⊎ In x l → In x (all_put xs l)
  into_put x xs l i =
      let it = of_put_all (λ y. In y (all_put xs l)) xs l (In-all (all_put xs l)) in
      elim i [
        | inl a ↦ All-In (λ y. In y (all_put xs l)) x xs it.0 a
        | inr b
            ↦ All-In (λ y. In y (all_put xs l)) x l it.1 b
      ]

  pub sum_put : (f : X → ℕ) (xs l : List X) → sum_by f (all_put xs l) ≡ sum_by f xs + sum_by f l
  sum_put f [] l = omega arith
  sum_put f (x ∷ xs) l = omega (arith, sum_put f xs (put key x l), sum_by-put key f x l, sum_by-cons f x xs)
