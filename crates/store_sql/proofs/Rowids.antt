-- Rows that are taken out by their rowids.
use Rattle.std.proofs.Common.{◌≡◌, ℤ, List, [], ◌∷◌, map, Bool, true, false, cond, refl, sym, ap, subst}
use Rattle.std.proofs.Common.{◌∙◌, inl, inr, Ordering, Less, Equal, Greater, All, get_or}
use Rattle.std.specs.Prelude.{not, ◌&&◌, ◌||◌, filter}
use Rattle.std.specs.List.{list_any}
use Rattle.std.specs.List.Sorted.{IsPermutation}
use Rattle.std.specs.Ordering.{is_eq, ordering_reverse}
use Rattle.std.specs.Cmp.{both_ways}
use Rattle.std.proofs.lemmas.Bool.{cases_Bool, and_parts, or_parts}
use Rattle.std.proofs.lemmas.List.Elements.{All-nil, All-cons, All-head, All-tail, All-map, All-filter}
use Rattle.std.proofs.lemmas.List.Elements.{All-from_recursion, recursion_from_All, filter_passes, filter_agree}
use Rattle.std.proofs.lemmas.List.Sorted.{All-permutation, IsPermutation-map, IsPermutation-sym}
use Rattle.sqlite_trees.proofs.ListLemmas.{all_of, filter_all, filter_same, map-map}
use Rattle.sqlite.specs.declared.types.Value.{Value}
use Rattle.sqlite.specs.declared.types.Value.TheVariants as value
use Rattle.sqlite.specs.Order.{Row}
use Rattle.sqlite.specs.Tree.{rowid, has_rowid, without_rowid, IsTable}
use Rattle.sqlite.specs.Edit.{without_all, id_in, have_rowids}
use Rattle.sqlite_trees.specs.View.{is_int}
use Rattle.sqlite_rules.specs.Calls.{ids_of}
use Rattle.sqlite_value.specs.Order.{value_cmp}
use Rattle.sqlite_value.proofs.OrderLemmas.{value_cmp_total}
use Rattle.store_sql.specs.Writing.{IsKeyed}

any_none : {A : Type 0} (q : A → Bool) (xs : List A) → list_any q xs ≡ false → All (λ x. q x ≡ false) xs
any_none q [] h = All-nil (λ x. q x ≡ false)
any_none q (x ∷ xs) h = let two = or_parts (q x) (list_any q xs) h in All-cons (λ y. q y ≡ false) x xs two.0
    (any_none q xs two.1)

any_some : {A : Type 0} (q : A → Bool) (R : Type 0) (xs : List A) → All (λ x. q x ≡ true → R) xs
    → list_any q xs ≡ true → R
any_some q R [] all h = absurd cc
any_some q R (x ∷ xs) all h = elim (cases_Bool (q x)) [
  | inl hit ↦ All-head (λ y. q y ≡ true → R) x xs all hit
  | inr miss ↦ any_some q R xs (All-tail (λ y. q y ≡ true → R) x xs all) (rw miss at h)
]

filter_twice : {A : Type 0} (p q : A → Bool) (xs : List A) → filter p (filter q xs) ≡ filter (λ x. q x && p x) xs
filter_twice p q [] = refl
filter_twice p q (x ∷ xs) = one (q x) (filter_twice p q xs)
  where
    one : (b : Bool) → filter p (filter q xs) ≡ filter (λ y. q y && p y) xs
        → filter p (cond b (x ∷ filter q xs) (filter q xs)) ≡ cond (b && p x)
        (x ∷ filter (λ y. q y && p y) xs) (filter (λ y. q y && p y) xs)
    one true more = rw more refl
    one false more = more

none_of : (a b : Bool) → not a && not b ≡ not (a || b)
none_of true b = refl
none_of false b = refl

without_ids : (xs : List Row) (ids : List ℤ) → without_all xs ids
    ≡ filter (λ r. not (list_any (λ id. has_rowid id r) ids)) xs
without_ids xs [] = sym (filter_all (λ _. true) xs (all_of (λ _. true ≡ true) (λ _. refl) xs))
without_ids xs (id ∷ ids) =
    without_ids (without_rowid id xs) ids ∙ filter_twice (λ r. not (list_any (λ i. has_rowid i r) ids))
    (λ r. not (has_rowid id r)) xs
    ∙ filter_agree _ _ (λ r. none_of (has_rowid id r) (list_any (λ i. has_rowid i r) ids)) xs

int_of : (v : Value) → is_int v ≡ true → v ≡ value.Int (id_in v)
int_of value.Null h = absurd cc
int_of (value.Int n) h = refl
int_of (value.Real x) h = absurd cc
int_of (value.Text t) h = absurd cc
int_of (value.Blob b) h = absurd cc

abbrev IsIntKeyed : Row → Type 0
IsIntKeyed r = rowid r ≡ value.Int (id_in (rowid r))

all_ints : (xs : List Row) → have_rowids xs ≡ true → All IsIntKeyed xs
all_ints [] h = All-nil IsIntKeyed
all_ints (x ∷ xs) h = let two = and_parts (is_int (rowid x)) (have_rowids xs) h in All-cons IsIntKeyed x xs
    (int_of (rowid x) two.0) (all_ints xs two.1)

-- of rows whose rowids rise, only the row itself has its rowid
pub only_one : (xs : List Row) → IsTable xs → All (λ r. All (λ s. is_eq (value_cmp (rowid r) (rowid s)) ≡ true
    → s ≡ r) xs) xs
only_one [] h = All-nil (λ r. All (λ s. is_eq (value_cmp (rowid r) (rowid s)) ≡ true → s ≡ r) [])
only_one (x ∷ xs) h =
    let above = All-from_recursion (λ s. value_cmp (rowid x) (rowid s) ≡ Less) xs h.0 in
    let first : All (λ s. is_eq (value_cmp (rowid x) (rowid s)) ≡ true → s ≡ x) (x ∷ xs) =
    All-cons (λ s. is_eq (value_cmp (rowid x) (rowid s)) ≡ true → s ≡ x) x xs (λ _. refl)
    (λ k d lt same. absurd (let e = rw (above k d lt) at same in cc)) in
    All-cons (λ r. All (λ s. is_eq (value_cmp (rowid r) (rowid s)) ≡ true → s ≡ r) (x ∷ xs)) x xs first
    (λ k d lt. All-cons (λ s. is_eq (value_cmp (rowid (get_or xs k d)) (rowid s)) ≡ true → s ≡ get_or xs k d)
    x xs (λ same. absurd (let e = value_cmp_total.antisymm _ _ ∙ ap ordering_reverse (above k d lt) in let f =
    rw e at same in cc)) (only_one xs h.1 k d lt))

at_kept : {A : Type 0} (p : A → Bool) (P : A → Type 0) (xs : List A) → All P (filter p xs)
    → All (λ r. p r ≡ true → P r) xs
at_kept p P [] all = All-nil (λ r. p r ≡ true → P r)
at_kept p P (x ∷ xs) all = one (p x) refl (at_kept p P xs)
  where
    one : (b : Bool) → p x ≡ b → (All P (filter p xs) → All (λ r. p r ≡ true → P r) xs)
        → All (λ r. p r ≡ true → P r) (x ∷ xs)
    one true is more = let here = subst (λ b. All P (cond b (x ∷ filter p xs) (filter p xs))) is all in All-cons
        (λ r. p r ≡ true → P r) x xs (λ _. All-head P x (filter p xs) here)
        (more (All-tail P x (filter p xs) here))
    one false is more =
        let here = subst (λ b. All P (cond b (x ∷ filter p xs) (filter p xs))) is all in
        All-cons (λ r. p r ≡ true → P r) x xs (λ passed. absurd (let e = sym is ∙ passed in cc)) (more here)

All-unmap : {A B : Type 0} (P : B → Type 0) (f : A → B) (xs : List A) → All P (map f xs)
    → All (λ x. P (f x)) xs
All-unmap P f [] all = All-nil (λ x. P (f x))
All-unmap P f (x ∷ xs) all = All-cons (λ y. P (f y)) x xs (All-head P (f x) (map f xs) all)
    (All-unmap P f xs (All-tail P (f x) (map f xs) all))

self_equal : (o : Ordering) → o ≡ ordering_reverse o → is_eq o ≡ true
self_equal Less h = absurd cc
self_equal Equal h = refl
self_equal Greater h = absurd cc

abbrev id_of : Row → ℤ
id_of r = id_in (rowid r)

module _ (xs : List Row) (keyed : IsKeyed xs) (p : Row → Bool) (ids : List ℤ)
    (same : IsPermutation (map id_of (filter p xs)) ids) where
  picked : All (λ r. list_any (λ id. has_rowid id r) ids ≡ p r) xs
  picked k d lt =
      let r = get_or xs k d in
      let ints = all_ints xs keyed.ints in
      let mine = ints k d lt in
      let others : All (λ s. has_rowid (id_of s) r ≡ true → s ≡ r) xs =
      λ j e below hit. only_one xs keyed.rises k d lt j e below
      (subst (λ v. is_eq (value_cmp (rowid r) v) ≡ true) (sym (ints j e below)) hit) in
      let kept : All (λ s. has_rowid (id_of s) r ≡ true → p r ≡ true) (filter p xs) = λ j e below hit.
      subst (λ z. p z ≡ true) (All-filter p (λ s. has_rowid (id_of s) r ≡ true → s ≡ r) xs others j e below
      hit) (filter_passes p xs j e below) in
      both_ways _ _
      (any_some (λ id. has_rowid id r) (p r ≡ true) ids (All-permutation
      (λ id. has_rowid id r ≡ true → p r ≡ true) _ ids same
      (All-map (λ id. has_rowid id r ≡ true → p r ≡ true) id_of (filter p xs) kept)))
      (λ passes. elim (cases_Bool (list_any (λ id. has_rowid id r) ids)) [
        | inl found ↦ found
        | inr none ↦
            let nowhere = All-permutation (λ id. has_rowid id r ≡ false) ids _ (IsPermutation-sym _ ids same)
            (any_none (λ id. has_rowid id r) ids none) in
            let here = at_kept p (λ s. has_rowid (id_of s) r ≡ false) xs
            (All-unmap (λ id. has_rowid id r ≡ false) id_of (filter p xs) nowhere) k d lt passes in
            let mine_is : has_rowid (id_of r) r ≡ true = subst (λ v. is_eq (value_cmp (rowid r) v) ≡ true) mine
            (self_equal _ (value_cmp_total.antisymm (rowid r) (rowid r))) in
            absurd (let e = sym here ∙ mine_is in cc)
      ])

  -- what is left where these rowids are taken out
  pub left_without : without_all xs ids ≡ filter (λ r. not (p r)) xs
  left_without = without_ids xs ids ∙ filter_same _ _ xs (recursion_from_All _ xs (λ k d lt. ap not (picked k d lt)))

-- the same of the rows that a query found
pub left_by_found : (xs : List Row) (keyed : IsKeyed xs) (p : Row → Bool) (key shown : Row → Row)
    (ordered : List (Row × Row)) (found : List Row) → ((r : Row) → rowid (shown r) ≡ rowid r)
    → found ≡ map (λ o. o.1) ordered
    → IsPermutation (map (λ r. (key r, shown r)) (filter p xs)) ordered
    → without_all xs (ids_of found) ≡ filter (λ r. not (p r)) xs
left_by_found xs keyed p key shown ordered found keeps is same =
    let moved = IsPermutation-map (λ (o : Row × Row). id_of o.1) _ ordered same in
    let front : map (λ (o : Row × Row). id_of o.1) (map (λ r. (key r, shown r)) (filter p xs))
    ≡ map id_of (filter p xs) = map-map (λ (o : Row × Row). id_of o.1) (λ r. (key r, shown r))
    (filter p xs) ∙ map_by (λ r. id_of (shown r)) id_of (λ r. ap id_in (keeps r)) (filter p xs) in
    let back : ids_of found ≡ map (λ (o : Row × Row). id_of o.1) ordered =
    ap ids_of is ∙ map-map id_of (λ (o : Row × Row). o.1) ordered in
    rw back (left_without xs keyed p _ (subst (λ l. IsPermutation l (map (λ (o : Row × Row). id_of o.1) ordered))
    front moved))
  where
    map_by : {A B : Type 0} (f g : A → B) → ((x : A) → f x ≡ g x) → (ys : List A) → map f ys ≡ map g ys
    map_by f g same' [] = refl
    map_by f g same' (y ∷ ys) = rw (same' y, map_by f g same' ys) refl
