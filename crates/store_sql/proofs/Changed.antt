-- Rows that are changed in their places: taken out of a table and put in again, in whatever order.
use Rattle.std.proofs.Common.{◌≡◌, ◌⊎◌, List, [], ◌∷◌, map, Bool, true, false, cond, refl, sym, ap}
use Rattle.std.proofs.Common.{ap₂, subst, ◌∙◌, inl, inr, Ordering, Less, Equal, Greater, is_eq, true≢false}
use Rattle.std.specs.Prelude.{not, filter}
use Rattle.std.specs.List.{AllByRecursion}
use Rattle.std.specs.List.Sorted.{IsPermutation}
use Rattle.std.specs.Ordering.{ordering_reverse}
use Rattle.std.proofs.lemmas.Bool.{cases_Bool, not-true}
use Rattle.std.proofs.lemmas.List.Elements.{All-from_recursion, recursion_from_All}
use Rattle.std.proofs.lemmas.List.Sorted.{All-permutation, IsPermutation-sym}
use Rattle.sqlite_trees.proofs.ListLemmas.{ascending-filter}
use Rattle.sqlite_trees.proofs.TreeLemmas.{IsTable-put_row}
use Rattle.sqlite.specs.Order.{Row}
use Rattle.sqlite.specs.Tree.{rowid, put_row, IsTable}
use Rattle.sqlite.specs.Edit.{put_all}
use Rattle.sqlite_value.specs.Order.{value_cmp}
use Rattle.sqlite_value.proofs.OrderLemmas.{value_cmp_total}
use Rattle.sqlite_rules.specs.Lists.{Has}
use Rattle.sqlite_rules.proofs.ListLemmas.{all_has, all_from, has_filtered, has_kept}
use Rattle.sqlite_rules.proofs.TableLemmas.{has_put, put_all_has}
use Rattle.sqlite_rules.proofs.PlaceLemmas.{Tied, tied_same}
use Rattle.store_sql.specs.Writing.{IsKeyed}

-- ---- lists that are mapped and filtered

has_mapped : (f : Row → Row) (xs : List Row) (x : Row) → Has xs x → Has (map f xs) (f x)
has_mapped f [] x h = absurd h
has_mapped f (y ∷ xs) x (inl same) = inl (ap f same)
has_mapped f (y ∷ xs) x (inr later) = inr (has_mapped f xs x later)

mapped_from : (f : Row → Row) (xs : List Row) (y : Row) → Has (map f xs) y → (x : Row) × Has xs x × (y ≡ f x)
mapped_from f [] y h = absurd h
mapped_from f (x ∷ xs) y (inl same) = (x, inl refl, same)
mapped_from f (x ∷ xs) y (inr later) = let m = mapped_from f xs y later in (m.0, inr m.1, m.2)

all_mapped : (P : Row → Type 0) (f : Row → Row) (xs : List Row) → AllByRecursion (λ x. P (f x)) xs
    → AllByRecursion P (map f xs)
all_mapped P f [] all = tt
all_mapped P f (x ∷ xs) all = (all.0, all_mapped P f xs all.1)

-- where a filter keeps nothing, no element passes
pub none_kept : {A : Type 0} (p : A → Bool) (xs : List A) → filter p xs ≡ []
    → AllByRecursion (λ x. p x ≡ false) xs
none_kept p [] h = tt
none_kept p (x ∷ xs) h = one (p x) refl h (none_kept p xs)
  where
    one : (b : Bool) → p x ≡ b → cond b (x ∷ filter p xs) (filter p xs) ≡ []
        → (filter p xs ≡ [] → AllByRecursion (λ y. p y ≡ false) xs)
        → AllByRecursion (λ y. p y ≡ false) (x ∷ xs)
    one true is none later = absurd cc
    one false is none later = (is, later none)

-- ---- tables, and rows that are put into them

never_both : (a b : Row) → value_cmp (rowid a) (rowid b) ≡ Less → value_cmp (rowid b) (rowid a) ≡ Less → ⊥
never_both a b p q = let e = value_cmp_total.antisymm (rowid a) (rowid b) ∙ ap ordering_reverse q in cc

-- two tables with the same rows are one
same_rows : (xs ys : List Row) → IsTable xs → IsTable ys → ((r : Row) → Has xs r → Has ys r)
    → ((r : Row) → Has ys r → Has xs r) → xs ≡ ys
same_rows [] [] p q a b = refl
same_rows [] (y ∷ ys) p q a b = absurd (b y (inl refl))
same_rows (x ∷ xs) [] p q a b = absurd (a x (inl refl))
same_rows (x ∷ xs) (y ∷ ys) p q a b =
    let first : x ≡ y = elim (a x (inl refl)) [
      | inl e ↦ e
      | inr later ↦ elim (b y (inl refl)) [
        | inl e ↦ sym e
        | inr also
            ↦ absurd (never_both x y (all_has _ xs y p.0 also) (all_has _ ys x q.0 later))
      ]
    ] in
    let past = λ (z : Row) (zs : List Row) (up : AllByRecursion (λ r. value_cmp (rowid z) (rowid r) ≡ Less) zs)
    (r : Row) (h : Has zs r) (e : r ≡ z).
    let lower = rw e at (all_has _ zs r up h) in never_both z z lower lower in
    ap₂ ◌∷◌ first (same_rows xs ys p.1 q.1
    (λ r h. elim (a r (inr h)) [ inl e ↦ absurd (past x xs p.0 r h (e ∙ sym first)) | inr k ↦ k ])
    (λ r h. elim (b r (inr h)) [ inl e ↦ absurd (past y ys q.0 r h (e ∙ first)) | inr k ↦ k ]))

put_all_table : (news rows : List Row) → IsTable rows → IsTable (put_all rows news)
put_all_table [] rows up = up
put_all_table (n ∷ news) rows up = put_all_table news (put_row n rows) (IsTable-put_row n rows up)

-- a row stays where one of another rowid is put
put_spares : (new : Row) (rows : List Row) (x : Row) → Has rows x → (Tied x new → ⊥)
    → Has (put_row new rows) x
put_spares new [] x h other = absurd h
put_spares new (r ∷ rows) x h other = go (value_cmp (rowid r) (rowid new)) refl (put_spares new rows x)
  where
    go : (o : Ordering) → value_cmp (rowid r) (rowid new) ≡ o
        → (Has rows x → (Tied x new → ⊥) → Has (put_row new rows) x) → Has (put_row new (r ∷ rows)) x
    go Less e later = rw e (elim h [ inl same ↦ inl same | inr more ↦ inr (later more other) ])
    go Equal e later = rw e (elim h [ inl same ↦ absurd (other (rw same e)) | inr more ↦ inr more ])
    go Greater e later = rw e (inr h)

abbrev Apart : List Row → Row → Type 0
Apart news x = (n : Row) → Has news n → Tied x n → ⊥

put_spares_all : (news rows : List Row) (x : Row) → Has rows x → Apart news x → Has (put_all rows news) x
put_spares_all [] rows x h apart = h
put_spares_all (n ∷ news) rows x h apart = put_spares_all news (put_row n rows) x
    (put_spares n rows x h (apart n (inl refl))) (λ m k. apart m (inr k))

equal_is : (o : Ordering) → is_eq o ≡ true → o ≡ Equal
equal_is Less h = absurd cc
equal_is Equal h = refl
equal_is Greater h = absurd cc

any_tied : (news : List Row) (x : Row) → ((n : Row) × Has news n × Tied x n) ⊎ Apart news x
any_tied [] x = inr (λ n none. absurd none)
any_tied (n ∷ news) x = elim (cases_Bool (is_eq (value_cmp (rowid x) (rowid n)))) [
  | inl tie ↦ inl (n, inl refl, equal_is _ tie)
  | inr other ↦ elim (any_tied news x) [
    | inl m ↦ inl (m.0, inr m.1, m.2)
    | inr apart ↦ inr (λ m k tie. elim k [
      | inl e ↦ let a = ap is_eq (rw e at tie) in cc
      | inr more
          ↦ apart m more tie
    ])
  ]
]

abbrev OnceEach : List Row → Type 0
OnceEach news = (a b : Row) → Has news a → Has news b → Tied a b → a ≡ b

-- each of them is there afterwards, where no two have one rowid
put_adds : (news rows : List Row) (x : Row) → OnceEach news → Has news x → Has (put_all rows news) x
put_adds [] rows x once h = absurd h
put_adds (n ∷ news) rows x once h =
    let later = put_adds news (put_row n rows) x (λ a b p q. once a b (inr p) (inr q)) in
    elim h [
      | inr more ↦ later more
      | inl e ↦ elim (any_tied news x) [
        | inl m ↦ later (subst (Has news) (sym (once x m.0 (inl e) (inr m.1) m.2)) m.1)
        | inr apart ↦ put_spares_all news (put_row n rows) x (subst (Has (put_row n rows)) (sym e) (has_put n rows))
            apart
      ]
    ]

-- ---- the rows that pass, changed

module _ (xs : List Row) (keyed : IsKeyed xs) (p : Row → Bool) (change : Row → Row)
    (keeps : (r : Row) → rowid (change r) ≡ rowid r) (news : List Row)
    (same : IsPermutation (map change (filter p xs)) news) where
  abbrev each : Row → Row
  each r = cond (p r) (change r) r

  abbrev left : List Row
  left = filter (λ r. not (p r)) xs

  abbrev IsChanged : Row → Type 0
  IsChanged n = (r : Row) × Has xs r × (p r ≡ true) × (n ≡ change r)

  are_changed : AllByRecursion IsChanged news
  are_changed =
      let first = all_mapped IsChanged change (filter p xs) (all_from _ (filter p xs)
      (λ r h. let k = has_filtered p xs r h in (r, k.0, k.1, refl))) in
      recursion_from_All IsChanged news (All-permutation IsChanged (map change (filter p xs)) news same
      (All-from_recursion IsChanged (map change (filter p xs)) first))

  has_changed : (r : Row) → Has xs r → p r ≡ true → Has news (change r)
  has_changed r here passes =
      let own = All-from_recursion (Has news) news (all_from (Has news) news (λ x h. h)) in
      let back = recursion_from_All (Has news) (map change (filter p xs))
      (All-permutation (Has news) news (map change (filter p xs))
      (IsPermutation-sym (map change (filter p xs)) news same) own) in
      all_has (Has news) (map change (filter p xs)) (change r) back
      (has_mapped change (filter p xs) r (has_kept p xs r here passes))

  once : OnceEach news
  once a b h k tie =
      let m = all_has IsChanged news a are_changed h in
      let n = all_has IsChanged news b are_changed k in
      let tied : Tied m.0 n.0 = rw (m.3, n.3, keeps m.0, keeps n.0) at tie in
      m.3 ∙ ap change (tied_same xs m.0 n.0 keyed.rises m.1 n.1 tied) ∙ sym n.3

  apart : (r : Row) → Has xs r → p r ≡ false → Apart news r
  apart r here misses n h tie =
      let m = all_has IsChanged news n are_changed h in
      let is : r ≡ m.0 = tied_same xs r m.0 keyed.rises here m.1 (rw (m.3, keeps m.0) at tie) in
      true≢false (sym m.2 ∙ sym (ap p is) ∙ misses)

  kept : (r : Row) → rowid (each r) ≡ rowid r
  kept r = elim (p r) as (λ b. rowid (cond b (change r) r) ≡ rowid r) [ true ↦ keeps r | false ↦ refl ]

  above : (y : Row) (ys : List Row) → AllByRecursion (λ s. value_cmp (rowid y) (rowid s) ≡ Less) ys
      → AllByRecursion (λ s. value_cmp (rowid (each y)) (rowid s) ≡ Less) (map each ys)
  above y [] less = tt
  above y (s ∷ ys) less = (rw (kept y, kept s) less.0, above y ys less.1)

  still_table : (ys : List Row) → IsTable ys → IsTable (map each ys)
  still_table [] up = tt
  still_table (y ∷ ys) up = (above y ys up.0, still_table ys up.1)

  forth : (x : Row) → Has (put_all left news) x → Has (map each xs) x
  forth x h = elim (put_all_has news left x h) [
    | inl new ↦
        let m = all_has IsChanged news x are_changed new in
        let is : each m.0 ≡ x = rw m.2 (sym m.3) in
        subst (Has (map each xs)) is (has_mapped each xs m.0 m.1)
    | inr was ↦
        let k = has_filtered (λ r. not (p r)) xs x was in
        let is : each x ≡ x = rw (not-true (p x) k.1) refl in
        subst (Has (map each xs)) is (has_mapped each xs x k.0)
  ]

  back : (y : Row) → Has (map each xs) y → Has (put_all left news) y
  back y h =
      let m = mapped_from each xs y h in
      elim (cases_Bool (p m.0)) [
        | inl passes ↦
            let is : change m.0 ≡ y = sym (rw passes at m.2) in
            subst (Has (put_all left news)) is (put_adds news left (change m.0) once (has_changed m.0 m.1 passes))
        | inr misses ↦
            let is : m.0 ≡ y = sym (rw misses at m.2) in
            subst (Has (put_all left news)) is (put_spares_all news left m.0
            (has_kept (λ r. not (p r)) xs m.0 m.1 (ap not misses)) (apart m.0 m.1 misses))
      ]

  -- what is left, with the changed rows in any order, is the table with each of them in its place
  pub changed_in_place : put_all left news ≡ map (λ r. cond (p r) (change r) r) xs
  changed_in_place = same_rows (put_all left news) (map each xs)
      (put_all_table news left (ascending-filter _ (λ r. not (p r)) xs keyed.rises)) (still_table xs keyed.rises)
      forth back
