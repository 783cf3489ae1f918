-- No two items of a file are called by one identity of the package.
use Rattle.std.specs.Prelude.{◌≡◌, ◌⊎◌, ◌-◌, ◌≤◌, ◌+◌, ℕ, zero, suc, Bool, true, false}
use Rattle.std.specs.Prelude.{cond, not, ◌&&◌, List, []}
use Rattle.std.specs.Prelude.{◌∷◌, ◌++◌, Option, Some, None, map, filter, option_map, unwrap_or, bytes_eq}
use Rattle.std.specs.Prelude.{count_by}
use Rattle.std.specs.Prelude.{slice_get, length, refl}
use Rattle.std.proofs.Common.{sym, ap, subst, ◌∙◌, inl, inr, arith, append_assoc}
use Rattle.std.specs.List.{list_any, AllByRecursion, IsDistinct}
use Rattle.std.specs.Option.{option_map_or}
use Rattle.std.proofs.lemmas.Bool.{true≢false, false≢true}
use Rattle.std.proofs.lemmas.List.{append-nil}
use Rattle.std.proofs.lemmas.List.Sums.{sum_by-append}
use Rattle.std.proofs.lemmas.Map.Keys.{IsDistinct-cons}
use Rattle.std.proofs.lemmas.Slice.Eq.{bytes_eq-Decides}
use Rattle.sheet_types.specs.Cut.{identities}
use Rattle.sheet_types.specs.Ordered.{has}
use Rattle.sheet_types.specs.declared.command.Content.{Content}
use Rattle.sheet_types.specs.declared.command.Item.{Item}
use Rattle.sheet_types.proofs.Basics.{None≢Some, bytes_eq_itself, some_same, not_true}
use Rattle.sheet_types.proofs.Distinct.{distinct_counts}
use Rattle.sheet_types.proofs.Sums.{count-cons, any_some, sum_by-map, filter_less}
use Rattle.sheet_types.proofs.Same.{In, In-append, any_in, any_at, two_are_one}
use Rattle.field_changes.specs.Keys.{content_key, same_content, key_of, item_mark}
use Rattle.field_changes.specs.Naming.{alike, copies, is_marked, is_own, others, unmarked, shared_name, name_of}
use Rattle.field_changes.specs.Naming.{known_as, names_behind}
use Rattle.field_changes.specs.declared.held.HeldItem.{HeldItem}
use Rattle.field_changes.specs.declared.naming.Name.{Name}
use Rattle.field_changes.specs.declared.naming.Name.TheVariants.{Old, New}
use Rattle.field_changes.specs.declared.naming.Named.{Named}
use Rattle.field_run_laws.proofs.Lists.{of_filter}
use Rattle.field_laws.specs.Changing.{OldNamesDiffer}
use Rattle.field_changes.proofs.Contents.{same_front, same_key}
use Rattle.field_laws.proofs.Names.{both, shared}

-- ---- where a name comes from

-- an item of the package, by its identity and its content
pub record Stands (items : List Item) (id : List ℕ) (c : Content) : Type 0 where
  pub item : Item
  pub there : In item items
  pub identity_is : item.identity ≡ id
  pub key_is : content_key item.content ≡ content_key c

pub marked_stands : (items : List Item) (id : List ℕ) (c : Content) → has item_mark (key_of 0 id c) items ≡ true
    → Stands items id c
marked_stands items id c some =
    let it = any_at (λ x. bytes_eq (item_mark x) (key_of 0 id c)) items some in
    let i : Item = it.0 in
    let e : item_mark i ≡ key_of 0 id c = (bytes_eq-Decides (item_mark i) (key_of 0 id c)).0 it.2 in
    let long : length i.identity ≡ length id = same_length i e in
    let rest : i.identity ++ content_key i.content ≡ id ++ content_key c = cc in
    let parts = same_front i.identity id (content_key i.content) (content_key c) long rest in
    record { item = i; there = it.1; identity_is = parts.0; key_is = parts.1 }
  where
    same_length : (i : Item) → item_mark i ≡ key_of 0 id c → length i.identity ≡ length id
    same_length i e = cc

-- of one that is its own
pub record Owned (items : List Item) (before : List HeldItem) (o : Option (List ℕ)) (c : Content) : Type 0 where
  pub id : List ℕ
  pub says : o ≡ Some id
  pub item : has item_mark (key_of 0 id c) items ≡ true
  pub first : list_any (is_marked (key_of 0 id c)) before ≡ false

owned_by : (items : List Item) (before : List HeldItem) (o : Option (List ℕ)) (c : Content)
    → option_map_or (λ m. has item_mark m items && not (list_any (is_marked m) before))
    (option_map (λ id. key_of 0 id c) o) false ≡ true → Owned items before o c
owned_by items before None c e = absurd (false≢true e)
owned_by items before (Some id) c e =
    let parts = both (has item_mark (key_of 0 id c) items) (not (list_any (is_marked (key_of 0 id c)) before)) e in
    record {
      id = id;
      says = refl;
      item = parts.0;
      first = not_true (list_any (is_marked (key_of 0 id c)) before)
          parts.1;
    }

pub owned : (items : List Item) (before : List HeldItem) (h : HeldItem) → is_own items before h ≡ true
    → Owned items before h.identity h.content
owned items before h e = owned_by items before h.identity h.content e

-- one that shares names with others of its content
pub stands_at : (c : Content) (xs : List Item) (k : ℕ) (id : List ℕ) → slice_get (alike c xs) k ≡ Some id
    → Stands xs id c
stands_at c [] k id e = absurd (None≢Some (nothing k e))
  where
    nothing : (n : ℕ) → slice_get {X = List ℕ} [] n ≡ Some id → None ≡ Some id
    nothing zero h = h
    nothing (suc n) h = h
stands_at c (i ∷ is) k id e =
    elim (same_content c i.content) as (λ b. same_content c i.content ≡ b
    → slice_get (identities (cond b (i ∷ filter (λ j. same_content c j.content) is)
    (filter (λ j. same_content c j.content) is))) k ≡ Some id → Stands (i ∷ is) id c) [
      | true ↦ λ t. at k t (λ n r. stands_at c is n id r)
      | false ↦ λ _ rest. later (stands_at c is k id rest)
    ] refl e
  where
    later : Stands is id c → Stands (i ∷ is) id c
    later s = record { item = s.item; there = inr s.there; identity_is = s.identity_is; key_is = s.key_is }

    at : (n : ℕ) → same_content c i.content ≡ true → ((m : ℕ) → slice_get (alike c is) m ≡ Some id
        → Stands is id c)
        → slice_get (i.identity ∷ alike c is) n ≡ Some id → Stands (i ∷ is) id c
    at zero t behind here = record {
      item = i;
      there = inl refl;
      identity_is = some_same here;
      key_is = sym ((bytes_eq-Decides (content_key c) (content_key i.content)).0 t);
    }
    at (suc n) t behind rest = later (behind n rest)

old_same : (a b : List ℕ) → Old a ≡ Old b → a ≡ b
old_same a b e = cc

-- where an old name comes from
abbrev CameFrom : List Item → List HeldItem → List HeldItem → HeldItem → List ℕ → Type 0
CameFrom items file before h id = ((is_own items before h ≡ true) × (unwrap_or h.identity [] ≡ id))
    ⊎ ((is_own items before h ≡ false) × (slice_get (alike h.content (unmarked items file))
    (copies (λ c. c) h.content (others items [] before)) ≡ Some id))

pub came_from : (items : List Item) (file before : List HeldItem) (h : HeldItem) (id : List ℕ)
    → name_of items file before h ≡ Old id → CameFrom items file before h id
came_from items file before h id e =
    let left = unmarked items file in
    let place = copies (λ c. c) h.content (others items [] before) in
    elim (is_own items before h) as (λ b. is_own items before h ≡ b
    → cond b (Old (unwrap_or h.identity [])) (shared_name left h.content place) ≡ Old id
    → CameFrom items file before h id) [
      | true ↦ λ own named. inl (own, old_same (unwrap_or h.identity []) id named)
      | false ↦ λ other named. inr (
        other,
        shared (slice_get (alike h.content left) place)
            (place - copies (λ i. i.content) h.content left) id named,
      )
    ] refl e

-- ---- no name is given twice

module _ (items : List Item) (file : List HeldItem) (distinct : IsDistinct bytes_eq (identities items)) where
  -- an identity has one item, and so one content
  one_item : (i j : Item) → In i items → In j items → (id : List ℕ) → i.identity ≡ id
      → j.identity ≡ id → i ≡ j
  one_item i j a b id e f = two_are_one (λ x. bytes_eq x.identity id) i j items
      (distinct_counts (λ x. x.identity) id items distinct) a b
      ((bytes_eq-Decides i.identity id).1 e) ((bytes_eq-Decides j.identity id).1 f)

  one_key : (id : List ℕ) (c d : Content) → (s : Stands items id c) (t : Stands items id d)
      → content_key c ≡ content_key d
  one_key id c d s t = sym s.key_is ∙ ap (λ i. content_key i.content)
      (one_item s.item t.item s.there t.there id s.identity_is t.identity_is) ∙ t.key_is

  -- an item of the file is marked as what it names
  marks : (h : HeldItem) (id : List ℕ) (m : List ℕ) → h.identity ≡ Some id → key_of 0 id h.content ≡ m
      → is_marked m h ≡ true
  marks h id m says is = ap (λ o. option_map_or (λ x. bytes_eq x m) (option_map (λ k. key_of 0 k h.content) o) false)
      says ∙ ap (λ k. bytes_eq k m) is ∙ bytes_eq_itself m

  same_mark : (id : List ℕ) (c d : Content) → content_key c ≡ content_key d → key_of 0 id c ≡ key_of 0 id d
  same_mark id c d e = ap (λ k. 0 ∷ length id ∷ (id ++ k)) e

  -- one that stands among those that nothing is marked as is named by none
  own_shared : (before : List HeldItem) (g : HeldItem) (c : Content) (id : List ℕ) → In g file
      → is_own items before g ≡ true → unwrap_or g.identity [] ≡ id → Stands (unmarked items file) id c
      → ⊥
  own_shared before g c id there own is s =
      let o = owned items before g own in
      let same : o.id ≡ id = sym (ap (λ x. unwrap_or x []) o.says) ∙ is in
      let t = marked_stands items o.id g.content o.item in
      let free = of_filter (λ i. not (list_any (is_marked (item_mark i)) file)) s.item items s.there in
      let i_is : t.item ≡ s.item = one_item t.item s.item t.there free.0 id (t.identity_is ∙ same) s.identity_is in
      let mark_is : key_of 0 o.id g.content ≡ item_mark s.item =
      same_mark o.id g.content t.item.content (sym t.key_is)
      ∙ ap (λ k. key_of 0 k t.item.content) (sym t.identity_is) ∙ ap item_mark i_is in
      let some : list_any (is_marked (item_mark s.item)) file ≡ true =
      any_in (is_marked (item_mark s.item)) g file there (marks g o.id (item_mark s.item) o.says mark_is) in
      true≢false (sym some ∙ not_true (list_any (is_marked (item_mark s.item)) file) free.1)

  -- what stands before, and what stands behind
  pub others_both : (before xs ys : List HeldItem) → others items before (xs ++ ys) ≡ others items before xs
      ++ others items (before ++ xs) ys
  others_both before [] ys = ap (λ b. others items b ys) (sym (append-nil before))
  others_both before (x ∷ xs) ys =
      let rest : others items (before ++ x ∷ []) (xs ++ ys) ≡ others items (before ++ x ∷ []) xs
      ++ others items (before ++ x ∷ xs) ys =
      others_both (before ++ x ∷ []) xs ys ∙ ap (λ b. others items (before ++ x ∷ []) xs ++ others items b ys)
      (append_assoc before (x ∷ []) xs) in
      elim (is_own items before x) as (λ v. cond v (others items (before ++ x ∷ []) (xs ++ ys))
      (x.content ∷ others items (before ++ x ∷ []) (xs ++ ys))
      ≡ cond v (others items (before ++ x ∷ []) xs) (x.content ∷ others items (before ++ x ∷ []) xs)
      ++ others items (before ++ x ∷ xs) ys) [
        | true ↦ rest
        | false ↦ ap (λ l. x.content ∷ l) rest
      ]

  in_list : (xs : List (List ℕ)) (k : ℕ) (id : List ℕ) → slice_get xs k ≡ Some id → In id xs
  in_list [] zero id e = absurd (None≢Some e)
  in_list [] (suc k) id e = absurd (None≢Some e)
  in_list (x ∷ xs) zero id e = inl (some_same e)
  in_list (x ∷ xs) (suc k) id e = inr (in_list xs k id e)

  one_place : (xs : List (List ℕ)) (k l : ℕ) (id : List ℕ) → count_by (λ x. bytes_eq x id) xs ≤ 1
      → slice_get xs k ≡ Some id → slice_get xs l ≡ Some id → k ≡ l
  one_place [] zero l id one a b = absurd (None≢Some a)
  one_place [] (suc k) l id one a b = absurd (None≢Some a)
  one_place (x ∷ xs) zero zero id one a b = refl
  one_place (x ∷ xs) zero (suc l) id one a b =
      absurd (omega (
        arith,
        one,
        count-cons (λ y. bytes_eq y id) x xs true ((bytes_eq-Decides x id).1 (some_same a)),
        any_some (λ y. bytes_eq y id) xs (any_in (λ y. bytes_eq y id) id xs (in_list xs l id b)
            (bytes_eq_itself id)),
      ))
  one_place (x ∷ xs) (suc k) zero id one a b =
      absurd (omega (
        arith,
        one,
        count-cons (λ y. bytes_eq y id) x xs true ((bytes_eq-Decides x id).1 (some_same b)),
        any_some (λ y. bytes_eq y id) xs (any_in (λ y. bytes_eq y id) id xs (in_list xs k id a)
            (bytes_eq_itself id)),
      ))
  one_place (x ∷ xs) (suc k) (suc l) id one a b = ap suc (one_place xs k l id (fewer (bytes_eq x id) refl) a b)
    where
      fewer : (v : Bool) → bytes_eq x id ≡ v → count_by (λ y. bytes_eq y id) xs ≤ 1
      fewer true e = omega (arith, one, count-cons (λ y. bytes_eq y id) x xs true e)
      fewer false e = omega (arith, one, count-cons (λ y. bytes_eq y id) x xs false e)

  alone : (c : Content) (id : List ℕ) → count_by (λ x. bytes_eq x id) (alike c (unmarked items file)) ≤ 1
  alone c id =
      let f : Item → ℕ = λ i. cond (bytes_eq i.identity id) 1 0 in
      omega (
        arith,
        sum_by-map (λ x. cond (bytes_eq x id) 1 0) (λ (i : Item). i.identity)
            (filter (λ i. same_content c i.content) (unmarked items file)),
        filter_less f (λ i. same_content c i.content) (unmarked items file),
        filter_less f (λ i. not (list_any (is_marked (item_mark i)) file)) items,
        distinct_counts (λ i. i.identity) id items distinct,
      )

  same_itself : (c : Content) → same_content c c ≡ true
  same_itself c = bytes_eq_itself (content_key c)

  clash : (before mid : List HeldItem) (h g : HeldItem) (id : List ℕ) → In h file → In g file
      → CameFrom items file before h id → CameFrom items file (before ++ h ∷ mid) g id → ⊥
  clash before mid h g id h_in g_in one other = elim one [
    | inl own ↦ elim other [
      | inl own' ↦
          let o = owned items before h own.0 in
          let p = owned items (before ++ h ∷ mid) g own'.0 in
          let o_is : o.id ≡ id = sym (ap (λ x. unwrap_or x []) o.says) ∙ own.1 in
          let p_is : p.id ≡ id = sym (ap (λ x. unwrap_or x []) p.says) ∙ own'.1 in
          let s : Stands items id h.content = subst (λ k. Stands items k h.content) o_is
          (marked_stands items o.id h.content o.item) in
          let t : Stands items id g.content = subst (λ k. Stands items k g.content) p_is
          (marked_stands items p.id g.content p.item) in
          let mark_is : key_of 0 o.id h.content ≡ key_of 0 p.id g.content =
          same_mark o.id h.content g.content (one_key id h.content g.content s t)
          ∙ ap (λ k. key_of 0 k g.content) (o_is ∙ sym p_is) in
          let some : list_any (is_marked (key_of 0 p.id g.content)) (before ++ h ∷ mid) ≡ true =
          any_in (is_marked (key_of 0 p.id g.content)) h (before ++ h ∷ mid)
          (In-append h before (h ∷ mid) (inr (inl refl)))
          (marks h o.id (key_of 0 p.id g.content) o.says mark_is) in
          true≢false (sym some ∙ p.first)
      | inr left ↦ own_shared before h g.content id h_in own.0 own.1
          (stands_at g.content (unmarked items file) (copies (λ c. c) g.content
          (others items [] (before ++ h ∷ mid)))
          id left.1)
    ]
    | inr left ↦ elim other [
      | inl own' ↦ own_shared (before ++ h ∷ mid) g h.content id g_in own'.0 own'.1
          (stands_at h.content (unmarked items file) (copies (λ c. c) h.content (others items [] before)) id left.1)
      | inr left' ↦
          let c = h.content in
          let pool = unmarked items file in
          let k : ℕ = copies (λ x. x) c (others items [] before) in
          let l : ℕ = copies (λ x. x) c (others items [] (before ++ h ∷ mid)) in
          let s = stands_at c pool k id left.1 in
          let t = stands_at g.content pool (copies (λ x. x) g.content (others items [] (before ++ h ∷ mid))) id
          left'.1 in
          let whole : (i : Item) → In i pool → In i items = λ i there.
          (of_filter (λ j. not (list_any (is_marked (item_mark j)) file)) i items there).0 in
          let i_is : s.item ≡ t.item = one_item s.item t.item (whole s.item s.there) (whole t.item t.there) id
          s.identity_is t.identity_is in
          let same : g.content ≡ c = same_key g.content c (sym t.key_is
          ∙ ap (λ i. content_key i.content) (sym i_is)
          ∙ s.key_is) in
          let there : slice_get (alike c pool) l ≡ Some id =
          subst (λ x. slice_get (alike x pool) (copies (λ y. y) x (others items [] (before ++ h ∷ mid)))
          ≡ Some id) same left'.1 in
          let even : k ≡ l = one_place (alike c pool) k l id (alone c id) left.1 there in
          let behind : others items [] (before ++ h ∷ mid) ≡ others items [] before
          ++ (c ∷ others items (before ++ h ∷ []) mid) =
          others_both [] before (h ∷ mid) ∙ ap (λ v. others items [] before
          ++ cond v (others items (before ++ h ∷ []) mid) (c ∷ others items (before ++ h ∷ []) mid)) left.0 in
          let more : l ≡ k + copies (λ x. x) c (c ∷ others items (before ++ h ∷ []) mid) =
          ap (copies (λ x. x) c) behind ∙ sum_by-append (λ x. cond (same_content c x) 1 0) (others items [] before)
          (c ∷ others items (before ++ h ∷ []) mid) in
          absurd (omega (
            arith,
            even,
            more,
            count-cons (λ x. same_content c x) c (others items (before ++ h ∷ []) mid)
                true (same_itself c),
          ))
    ]
  ]

  module _ (p : List ℕ) (n : ℕ) where
    abbrev is_old : Named → Bool
    is_old name = not name.is_new

    -- a name that is given once is given to none behind
    apart : (before mid : List HeldItem) (h : HeldItem) (id : List ℕ) (hs : List HeldItem) → In h file
        → ((g : HeldItem) → In g hs → In g file) → CameFrom items file before h id
        → AllByRecursion (λ z. bytes_eq id z ≡ false) (map (λ z. z.identity)
        (filter is_old (names_behind p n items file (before ++ h ∷ mid) hs)))
    apart before mid h id [] h_in whole came = tt
    apart before mid h id (g ∷ gs) h_in whole came =
        let later : AllByRecursion (λ z. bytes_eq id z ≡ false)
        (map (λ z. z.identity) (filter is_old (names_behind p n items file ((before ++ h ∷ mid) ++ g ∷ [])
        gs))) =
        subst (λ b. AllByRecursion (λ z. bytes_eq id z ≡ false)
        (map (λ z. z.identity) (filter is_old (names_behind p n items file b gs))))
        (sym (append_assoc before (h ∷ mid) (g ∷ [])))
        (apart before (mid ++ g ∷ []) h id gs h_in (λ x i. whole x (inr i)) came) in
        one (name_of items file (before ++ h ∷ mid) g) refl later
      where
        one : (x : Name) → name_of items file (before ++ h ∷ mid) g ≡ x
            → AllByRecursion (λ z. bytes_eq id z ≡ false) (map (λ z. z.identity)
            (filter is_old (names_behind p n items file ((before ++ h ∷ mid) ++ g ∷ []) gs)))
            → AllByRecursion (λ z. bytes_eq id z ≡ false) (map (λ z. z.identity)
            (filter is_old (known_as p n g x ∷ names_behind p n items file ((before ++ h ∷ mid) ++ g ∷ []) gs)))
        one (New copy) e later = later
        one (Old other) e later = (
          elim (bytes_eq id other) as (λ v. bytes_eq id other ≡ v → v ≡ false) [
            | true ↦ λ same. absurd (clash before mid h g id h_in (whole g (inl refl)) came
                (subst (CameFrom items file (before ++ h ∷ mid) g) (sym ((bytes_eq-Decides id other).0 same))
                (came_from items file (before ++ h ∷ mid) g other e)))
            | false ↦ λ _. refl
          ] refl,
          later,
        )

    old_apart : (before hs : List HeldItem) → ((g : HeldItem) → In g hs → In g file)
        → IsDistinct bytes_eq (map (λ z. z.identity) (filter is_old (names_behind p n items file before hs)))
    unfolding IsDistinct
    old_apart before [] whole = tt
    old_apart before (h ∷ hs) whole = one (name_of items file before h) refl
        (old_apart (before ++ h ∷ []) hs (λ g i. whole g (inr i)))
      where
        one : (x : Name) → name_of items file before h ≡ x → IsDistinct bytes_eq
            (map (λ z. z.identity) (filter is_old (names_behind p n items file (before ++ h ∷ []) hs)))
            → IsDistinct bytes_eq (map (λ z. z.identity) (filter is_old
            (known_as p n h x ∷ names_behind p n items file (before ++ h ∷ []) hs)))
        one (New copy) e later = later
        one (Old id) e later = IsDistinct-cons bytes_eq id (map (λ z. z.identity)
            (filter is_old (names_behind p n items file (before ++ h ∷ []) hs)))
            (apart before [] h id hs (whole h (inl refl)) (λ g i. whole g (inr i))
            (came_from items file before h id e)) later

pub old_names_differ : OldNamesDiffer
old_names_differ p ticket items file distinct = old_apart items file distinct p ticket [] file (λ g i. i)
