-- Only what differs is asked for: of each content as many items are added, or deleted, as there are more or fewer of
-- it.
use Rattle.std.specs.Prelude.{◌≡◌, ◌-◌, ◌≤◌, ◌<◌, ◌+◌, ℕ, zero, suc, Bool, true, false}
use Rattle.std.specs.Prelude.{cond, not, ◌&&◌, ◌||◌, List}
use Rattle.std.specs.Prelude.{[], ◌∷◌, ◌++◌, Option, Some, None, filter, option_map, unwrap_or, length}
use Rattle.std.specs.Prelude.{bytes_eq}
use Rattle.std.specs.Prelude.{count_by, sum_by, slice_get, refl}
use Rattle.std.proofs.Common.{sym, ap, subst, ◌∙◌, inl, inr, arith, append_assoc, drop}
use Rattle.std.specs.List.{list_any, AllZip, IsDistinct}
use Rattle.std.specs.Option.{option_map_or}
use Rattle.std.proofs.lemmas.Bool.{true≢false, false≢true, and_parts, and_from}
use Rattle.std.proofs.lemmas.List.{append-nil, length-map}
use Rattle.std.proofs.lemmas.List.Folds.{list_any-append}
use Rattle.std.proofs.lemmas.List.Sums.{sum_by-append, sum_by-cons}
use Rattle.std.proofs.lemmas.Slice.Eq.{bytes_eq-Decides}
use Rattle.sheet_types.specs.Cut.{identities}
use Rattle.sheet_types.specs.Ordered.{has, arranged}
use Rattle.sheet_types.specs.World.{item_key}
use Rattle.sheet_types.specs.declared.command.Content.{Content}
use Rattle.sheet_types.specs.declared.command.Item.{Item}
use Rattle.sheet_types.proofs.Basics.{None≢Some, bytes_eq_itself, or-false}
use Rattle.sheet_types.proofs.Distinct.{distinct_counts}
use Rattle.sheet_types.proofs.Every.{All-weaker, none_pass}
use Rattle.sheet_types.proofs.Order.{sum_by-arranged, arranged_counts}
use Rattle.sheet_types.proofs.Same.{In, In-all, All-In, In-filter, In-append, any_in, any_at, two_are_one, same_list}
use Rattle.sheet_types.proofs.Sums.{count-cons, count_le, count_none, any_some, sum_by-same, length_sum, filter_less}
use Rattle.field_changes.specs.Keys.{content_key, same_content, key_of, item_mark}
use Rattle.field_changes.specs.Naming.{alike, copies, is_marked, is_own, others, unmarked, shared_name, name_of}
use Rattle.field_changes.specs.Naming.{known_as, names_behind, names_of}
use Rattle.field_changes.specs.Parts.{gone, new_items}
use Rattle.field_changes.specs.declared.held.HeldItem.{HeldItem}
use Rattle.field_changes.specs.declared.naming.Name.{Name}
use Rattle.field_changes.specs.declared.naming.Name.TheVariants.{Old, New}
use Rattle.field_changes.specs.declared.naming.Named.{Named}
use Rattle.field_run_laws.proofs.Lists.{of_filter, in_arranged, into_arranged}
use Rattle.field_laws.specs.Changing.{OnlyWhatDiffers}
use Rattle.field_laws.specs.Laws.{HoldsUnder}
use Rattle.field_changes.proofs.Contents.{same_front, same_key}
use Rattle.field_laws.proofs.Makes.{old_stands}
use Rattle.field_laws.proofs.Names.{old_names}
use Rattle.field_laws.proofs.Naming as naming
use Rattle.field_laws.proofs.Naming.{Stands, marked_stands, Owned, old_names_differ}

-- ---- counts

count_or : {X : Type 0} (p q : X → Bool) (xs : List X) → count_by (λ x. p x || q x) xs
    ≡ count_by p xs + count_by (λ x. not (p x) && q x) xs
count_or p q [] = omega arith
count_or p q (x ∷ xs) =
    let rest = count_or p q xs in
    elim (p x) as (λ v. p x ≡ v → count_by (λ y. p y || q y) (x ∷ xs)
    ≡ count_by p (x ∷ xs) + count_by (λ y. not (p y) && q y) (x ∷ xs)) [
      | true ↦ λ e. omega (
        arith,
        rest,
        count-cons (λ y. p y || q y) x xs true (ap (λ b. b || q x) e),
        count-cons p x
            xs true e,
        count-cons (λ y. not (p y) && q y) x xs false (ap (λ b. not b && q x) e),
      )
      | false ↦ λ e. elim (q x) as (λ v. q x ≡ v → count_by (λ y. p y || q y) (x ∷ xs)
          ≡ count_by p (x ∷ xs) + count_by (λ y. not (p y) && q y) (x ∷ xs)) [
            | true ↦ λ f. omega (
              arith,
              rest,
              count-cons (λ y. p y || q y) x xs true (ap (λ b. b || q x) e ∙ f),
              count-cons p x xs false e,
              count-cons (λ y. not (p y) && q y) x xs true (ap (λ b. not b && q x) e ∙ f),
            )
            | false ↦ λ f. omega (
              arith,
              rest,
              count-cons (λ y. p y || q y) x xs false (ap (λ b. b || q x) e ∙ f),
              count-cons p x xs false e,
              count-cons (λ y. not (p y) && q y) x xs false (ap (λ b. not b && q x) e ∙ f),
            )
          ] refl
    ] refl

-- those that pass another test, and those that are left
count_split : {X : Type 0} (p t : X → Bool) (xs : List X) → count_by p xs
    ≡ count_by (λ x. p x && t x) xs + count_by p (filter (λ x. not (t x)) xs)
count_split p t [] = omega arith
count_split p t (x ∷ xs) =
    let rest = count_split p t xs in
    elim (t x) as (λ v. t x ≡ v → count_by p (x ∷ xs) ≡ count_by (λ y. p y && t y) (x ∷ xs) + count_by p
    (cond (not v) (x ∷ filter (λ y. not (t y)) xs) (filter (λ y. not (t y)) xs))) [
      | true ↦ λ e. elim (p x) as (λ v. p x ≡ v → count_by p (x ∷ xs)
          ≡ count_by (λ y. p y && t y) (x ∷ xs) + count_by p (filter (λ y. not (t y)) xs)) [
            | true ↦ λ f. omega (
              arith,
              rest,
              count-cons p x xs true f,
              count-cons (λ y. p y && t y) x xs true
                  (ap (λ b. b && t x) f ∙ e),
            )
            | false ↦ λ f. omega (
              arith,
              rest,
              count-cons p x xs false f,
              count-cons (λ y. p y && t y) x xs false
                  (ap (λ b. b && t x) f),
            )
          ] refl
      | false ↦ λ e. elim (p x) as (λ v. p x ≡ v → count_by p (x ∷ xs)
          ≡ count_by (λ y. p y && t y) (x ∷ xs) + count_by p (x ∷ filter (λ y. not (t y)) xs)) [
            | true ↦ λ f. omega (
              arith,
              rest,
              count-cons p x xs true f,
              count-cons p x (filter (λ y. not (t y)) xs) true
                  f,
              count-cons (λ y. p y && t y) x xs false (ap (λ b. b && t x) f ∙ e),
            )
            | false ↦ λ f. omega (
              arith,
              rest,
              count-cons p x xs false f,
              count-cons p x (filter (λ y. not (t y)) xs)
                  false f,
              count-cons (λ y. p y && t y) x xs false (ap (λ b. b && t x) f),
            )
          ] refl
    ] refl

length_filter : {X : Type 0} (t : X → Bool) (xs : List X) → length (filter t xs) ≡ count_by t xs
length_filter t [] = omega arith
length_filter t (x ∷ xs) = elim (t x) as (λ v. t x ≡ v → length (cond v (x ∷ filter t xs) (filter t xs))
    ≡ count_by t (x ∷ xs)) [
      | true ↦ λ e. omega (arith, length_filter t xs, count-cons t x xs true e)
      | false ↦ λ e. omega (arith, length_filter t xs, count-cons t x xs false e)
    ] refl

count_same : {X : Type 0} (p q : X → Bool) → ((x : X) → p x ≡ q x) → (xs : List X)
    → count_by p xs ≡ count_by q xs
count_same p q e xs = sum_by-same (λ x. cond (p x) 1 0) (λ x. cond (q x) 1 0) (λ x. ap (λ b. cond b 1 0) (e x)) xs

false_by : (b : Bool) → (b ≡ true → ⊥) → b ≡ false
false_by true f = absurd (f refl)
false_by false f = refl

past_end : (xs : List (List ℕ)) (k : ℕ) → slice_get xs k ≡ None → length xs ≤ k
past_end [] k e = omega arith
past_end (x ∷ xs) zero e = absurd (None≢Some (sym e))
past_end (x ∷ xs) (suc k) e = omega (arith, past_end xs k e)

before_end : (xs : List (List ℕ)) (k : ℕ) (x : List ℕ) → slice_get xs k ≡ Some x → k < length xs
before_end [] zero x e = absurd (None≢Some e)
before_end [] (suc k) x e = absurd (None≢Some e)
before_end (y ∷ xs) zero x e = omega arith
before_end (y ∷ xs) (suc k) x e = omega (arith, before_end xs k x e)

-- ---- marks

same_marks : (a b : List ℕ) (c d : Content) → key_of 0 a c ≡ key_of 0 b d → (a ≡ b)
    × (content_key c ≡ content_key d)
same_marks a b c d e =
    let long : length a ≡ length b = cc in
    let rest : a ++ content_key c ≡ b ++ content_key d = cc in
    same_front a b (content_key c) (content_key d) long rest

marked_by : (m : List ℕ) (d : Content) (o : Option (List ℕ))
    → option_map_or (λ x. bytes_eq x m) (option_map (λ id. key_of 0 id d) o) false ≡ true → (id : List ℕ)
    × (o ≡ Some id) × (key_of 0 id d ≡ m)
marked_by m d None h = absurd (false≢true h)
marked_by m d (Some id) h = (id, refl, (bytes_eq-Decides (key_of 0 id d) m).0 h)

newly_true : (a m k : Bool) → a ≡ true → m ≡ false → k ≡ true → (not (a && m) && (a && k)) ≡ true
newly_true a m k e f g = ap (λ b. not (b && m) && (b && k)) e ∙ ap (λ b. not b && k) f ∙ g

newly_parts : (a m k : Bool) → (not (a && m) && (a && k)) ≡ true → (a ≡ true) × (m ≡ false) × (k ≡ true)
newly_parts true true k h = absurd (false≢true h)
newly_parts true false k h = (refl, refl, h)
newly_parts false m k h = absurd (false≢true h)

and_or : (a m k : Bool) → (a && (m || k)) ≡ ((a && m) || (a && k))
and_or true m k = refl
and_or false m k = refl

new_from : (items : List Item) (file before : List HeldItem) (h : HeldItem) (copy : ℕ)
    → name_of items file before h ≡ New copy
    → (is_own items before h ≡ false) × (slice_get (alike h.content (unmarked items file))
    (copies (λ c. c) h.content (others items [] before)) ≡ None)
new_from items file before h copy e =
    let pool = unmarked items file in
    let place = copies (λ c. c) h.content (others items [] before) in
    elim (is_own items before h) as (λ b. is_own items before h ≡ b
    → cond b (Old (unwrap_or h.identity [])) (shared_name pool h.content place) ≡ New copy
    → (is_own items before h ≡ false) × (slice_get (alike h.content pool) place ≡ None)) [
      | true ↦ λ _ named. absurd (old_not_new (unwrap_or h.identity []) copy named)
      | false ↦ λ own named. (
        own,
        none (slice_get (alike h.content pool) place)
            (place - copies (λ i. i.content) h.content pool) named,
      )
    ] refl e
  where
    old_not_new : (id : List ℕ) (n : ℕ) → Old id ≡ New n → ⊥
    old_not_new id n e = cc

    none : (o : Option (List ℕ)) (m : ℕ) → option_map_or Old o (New m) ≡ New copy → o ≡ None
    none None m e = refl
    none (Some id) m e = absurd (old_not_new id copy e)

-- ---- of one content

module _ (items : List Item) (file : List HeldItem) (distinct : IsDistinct bytes_eq (identities items))
    (c : Content) where
  abbrev is_c : Content → Bool
  is_c d = same_content c d

  abbrev marked : List HeldItem → Item → Bool
  marked before i = list_any (is_marked (item_mark i)) before

  -- how many are their own
  abbrev own_count : List HeldItem → List HeldItem → ℕ
  own_count before [] = 0
  own_count before (h ∷ hs) = cond (is_own items before h && is_c h.content) 1 0 + own_count (before ++ h ∷ []) hs

  abbrev newly : List HeldItem → HeldItem → Item → Bool
  newly before h i = not (is_c i.content && marked before i) && (is_c i.content && is_marked (item_mark i) h)

  -- one that is its own marks one item more
  newly_count : (before : List HeldItem) (h : HeldItem) → count_by (newly before h) items
      ≡ cond (is_own items before h && is_c h.content) 1 0
  newly_count before h =
      elim (is_own items before h && is_c h.content) as (λ v. (is_own items before h && is_c h.content) ≡ v
      → count_by (newly before h) items ≡ cond v 1 0) [
        | true ↦ λ e.
            let parts = and_parts (is_own items before h) (is_c h.content) e in
            let o = naming.owned items before h parts.0 in
            let s = marked_stands items o.id h.content o.item in
            let i : Item = s.item in
            let mark_is : item_mark i ≡ key_of 0 o.id h.content =
            ap (λ k. key_of 0 k i.content) s.identity_is ∙ ap (λ k. 0 ∷ length o.id ∷ (o.id ++ k)) s.key_is in
            let is_of : is_c i.content ≡ true = ap (bytes_eq (content_key c)) s.key_is ∙ parts.1 in
            let first : marked before i ≡ false = ap (λ m. list_any (is_marked m) before) mark_is ∙ o.first in
            let marks : is_marked (item_mark i) h ≡ true =
            ap (λ x. option_map_or (λ m. bytes_eq m (item_mark i)) (option_map (λ k. key_of 0 k h.content) x) false)
            o.says ∙ (bytes_eq-Decides (key_of 0 o.id h.content) (item_mark i)).1 (sym mark_is) in
            let some = any_some (newly before h) items (any_in (newly before h) i items s.there
            (newly_true (is_c i.content) (marked before i) (is_marked (item_mark i) h) is_of first marks)) in
            let few = count_le (newly before h) (λ j. bytes_eq j.identity o.id) (λ j f.
            let k = newly_parts (is_c j.content) (marked before j) (is_marked (item_mark j) h) f in
            let by = marked_by (item_mark j) h.content h.identity k.2 in
            let same : by.0 ≡ o.id = ap (λ x. unwrap_or x []) (sym by.1 ∙ o.says) in
            (bytes_eq-Decides j.identity o.id).1 (sym (same_marks by.0 j.identity h.content j.content by.2).0 ∙ same))
            items in
            omega (arith, some, few, distinct_counts (λ j. j.identity) o.id items distinct)
        | false ↦ λ e. count_none (newly before h) items (All-weaker (λ j. In j items)
            (λ j. newly before h j ≡ false)
            (λ j there. false_by (newly before h j) (λ f.
            let k = newly_parts (is_c j.content) (marked before j) (is_marked (item_mark j) h) f in
            let by = marked_by (item_mark j) h.content h.identity k.2 in
            let is_of : is_c h.content ≡ true = ap (bytes_eq (content_key c))
            (same_marks by.0 j.identity h.content j.content by.2).1 ∙ k.0 in
            let item : has item_mark (key_of 0 by.0 h.content) items ≡ true =
            any_in (λ y. bytes_eq (item_mark y) (key_of 0 by.0 h.content)) j items there
            ((bytes_eq-Decides (item_mark j) (key_of 0 by.0 h.content)).1 (sym by.2)) in
            let first : list_any (is_marked (key_of 0 by.0 h.content)) before ≡ false =
            ap (λ m. list_any (is_marked m) before) by.2 ∙ k.1 in
            let own : is_own items before h ≡ true =
            ap (λ x. option_map_or (λ m. has item_mark m items && not (list_any (is_marked m) before))
            (option_map (λ k. key_of 0 k h.content) x) false) by.1
            ∙ ap (λ b. b && not (list_any (is_marked (key_of 0 by.0 h.content)) before)) item ∙ ap not first in
            true≢false (sym (and_from (is_own items before h) (is_c h.content) own is_of) ∙ e))) items
            (In-all items))
      ] refl

  marked_more : (before : List HeldItem) (h : HeldItem) → count_by
      (λ i. is_c i.content && marked (before ++ h ∷ []) i) items
      ≡ count_by (λ i. is_c i.content && marked before i) items + cond (is_own items before h && is_c h.content) 1 0
  marked_more before h =
      omega (
        arith,
        count_same (λ i. is_c i.content && marked (before ++ h ∷ []) i)
            (λ i. (is_c i.content && marked before i) || (is_c i.content && is_marked (item_mark i) h))
            (λ i. ap (λ b. is_c i.content && b) (list_any-append (is_marked (item_mark i)) before (h ∷ [])
            ∙ ap (λ b. marked before i || b) (or-false (is_marked (item_mark i) h)))
            ∙ and_or (is_c i.content) (marked before i) (is_marked (item_mark i) h)) items,
        count_or (λ i. is_c i.content && marked before i) (λ i. is_c i.content && is_marked (item_mark i) h) items,
        newly_count before h,
      )

  marked_all : (before hs : List HeldItem) → count_by (λ i. is_c i.content && marked (before ++ hs) i) items
      ≡ count_by (λ i. is_c i.content && marked before i) items + own_count before hs
  marked_all before [] = omega (
    arith,
    ap (λ l. count_by (λ i. is_c i.content && marked l i) items)
        (append-nil before),
  )
  marked_all before (h ∷ hs) =
      omega (
        arith,
        ap (λ l. count_by (λ i. is_c i.content && marked l i) items)
            (sym (append_assoc before (h ∷ []) hs)),
        marked_all (before ++ h ∷ []) hs,
        marked_more before h,
      )

  abbrev pool : List Item
  pool = unmarked items file

  -- the items of the package: those that are named as their own, and the pool
  package_count : copies (λ i. i.content) c items ≡ own_count [] file + copies (λ i. i.content) c pool
  package_count =
      omega (
        arith,
        count_split (λ i. is_c i.content) (marked file) items,
        marked_all [] file,
        count_none (λ i. is_c i.content && marked [] i) items
            (All-weaker (λ i. In i items) (λ i. (is_c i.content && marked [] i) ≡ false)
            (λ i _. never (is_c i.content)) items (In-all items)),
      )
    where
      never : (b : Bool) → (b && false) ≡ false
      never true = refl
      never false = refl

  -- those of the file: those that are their own, and the others
  file_count : (before hs : List HeldItem) → copies (λ h. h.content) c hs
      ≡ own_count before hs + copies (λ x. x) c (others items before hs)
  file_count before [] = omega arith
  file_count before (h ∷ hs) =
      let rest = file_count (before ++ h ∷ []) hs in
      let b : Bool = is_c h.content in
      let head = sum_by-cons (λ g. cond (is_c g.content) 1 0) h hs in
      elim (is_own items before h) as (λ v. copies (λ g. g.content) c (h ∷ hs)
      ≡ (cond (v && is_c h.content) 1 0 + own_count (before ++ h ∷ []) hs)
      + copies (λ x. x) c (cond v (others items (before ++ h ∷ []) hs)
      (h.content ∷ others items (before ++ h ∷ []) hs))) [
        | true ↦ omega (arith, rest, head)
        | false ↦ omega (
          arith,
          rest,
          head,
          sum_by-cons (λ d. cond (is_c d) 1 0) h.content
              (others items (before ++ h ∷ []) hs),
        )
      ]

  pool_length : length (alike c pool) ≡ copies (λ i. i.content) c pool
  pool_length = length-map (filter (λ i. is_c i.content) pool) (λ i. i.identity)
      ∙ length_filter (λ i. is_c i.content) pool

  abbrev others_before : List HeldItem → ℕ
  others_before before = copies (λ x. x) c (others items [] before)

  module _ (p : List ℕ) (n : ℕ) where
    abbrev new_of : List HeldItem → List HeldItem → ℕ
    new_of before hs = count_by (λ i. is_c i.content) (new_items (names_behind p n items file before hs) hs)

    -- the others that come behind as many as the pool has are new
    new_count : (before hs : List HeldItem) → new_of before hs +
        (others_before before - copies (λ i. i.content) c pool)
        ≡ (others_before before + copies (λ x. x) c (others items before hs)) - copies (λ i. i.content) c pool
    new_count before [] = omega arith
    new_count before (h ∷ hs) = one (name_of items file before h) refl (new_count (before ++ h ∷ []) hs)
      where
        next_count : (v : Bool) → is_own items before h ≡ v → others_before (before ++ h ∷ [])
            ≡ others_before before + cond v 0 (cond (is_c h.content) 1 0)
        next_count v e =
            ap (copies (λ x. x) c) (naming.others_both items file distinct [] before (h ∷ []))
            ∙ sum_by-append (λ d. cond (is_c d) 1 0) (others items [] before) (others items before (h ∷ []))
            ∙ ap (λ k. others_before before + k) (last v e)
          where
            last : (u : Bool) → is_own items before h ≡ u → copies (λ x. x) c (others items before (h ∷ []))
                ≡ cond u 0 (cond (is_c h.content) 1 0)
            last true f = ap (λ b. copies (λ x. x) c (cond b [] (h.content ∷ []))) f
            last false f = ap (λ b. copies (λ x. x) c (cond b [] (h.content ∷ []))) f
                ∙ omega (arith, sum_by-cons (λ d. cond (is_c d) 1 0) h.content [])

        all_count : (v : Bool) → is_own items before h ≡ v → copies (λ x. x) c (others items before (h ∷ hs))
            ≡ cond v 0 (cond (is_c h.content) 1 0) + copies (λ x. x) c (others items (before ++ h ∷ []) hs)
        all_count true e = ap (λ b. copies (λ x. x) c (cond b (others items (before ++ h ∷ []) hs)
            (h.content ∷ others items (before ++ h ∷ []) hs))) e ∙ omega arith
        all_count false e = ap (λ b. copies (λ x. x) c (cond b (others items (before ++ h ∷ []) hs)
            (h.content ∷ others items (before ++ h ∷ []) hs))) e
            ∙ omega (arith, sum_by-cons (λ d. cond (is_c d) 1 0) h.content (others items (before ++ h ∷ []) hs))

        -- where it has the content, its place is among those of the content
        at_place : is_c h.content ≡ true → (P : ℕ → ℕ → Type 0)
            → P (copies (λ x. x) h.content (others items [] before)) (length (alike h.content pool))
            → P (others_before before) (copies (λ i. i.content) c pool)
        at_place same P it =
            let is : c ≡ h.content = same_key c h.content ((bytes_eq-Decides (content_key c)
            (content_key h.content)).0 same) in
            subst (P (others_before before)) pool_length (subst
            (λ d. P (copies (λ x. x) d (others items [] before)) (length (alike d pool))) (sym is) it)

        one : (x : Name) → name_of items file before h ≡ x
            → new_of (before ++ h ∷ []) hs + (others_before (before ++ h ∷ []) - copies (λ i. i.content) c pool)
            ≡ (others_before (before ++ h ∷ []) + copies (λ x. x) c (others items (before ++ h ∷ []) hs)) -
            copies
            (λ i. i.content) c pool
            → count_by (λ i. is_c i.content) (new_items (known_as p n h x
            ∷ names_behind p n items file (before ++ h ∷ []) hs) (h ∷ hs)) +
            (others_before before - copies (λ i. i.content) c pool)
            ≡ (others_before before + copies (λ x. x) c (others items before (h ∷ hs))) - copies
            (λ i. i.content) c pool
        one (Old id) e rest = elim (naming.came_from items file before h id e) [
          | inl own ↦ omega (arith, rest, next_count true own.0, all_count true own.0)
          | inr left ↦ elim (is_c h.content) as (λ v. is_c h.content ≡ v
              → new_of (before ++ h ∷ []) hs + (others_before before - copies (λ i. i.content) c pool)
              ≡ (others_before before + copies (λ x. x) c (others items before (h ∷ hs))) - copies
              (λ i. i.content) c
              pool) [
                | true ↦ λ same.
                    let less : others_before before < copies (λ i. i.content) c pool =
                    at_place same (λ a b. a < b) (before_end (alike h.content pool)
                    (copies (λ x. x) h.content (others items [] before)) id left.1) in
                    omega (
                      arith,
                      rest,
                      less,
                      next_count false left.0,
                      all_count false left.0,
                      ap {B = ℕ}
                          (λ b. cond b 1 0) same,
                    )
                | false ↦ λ other. omega (
                  arith,
                  rest,
                  next_count false left.0,
                  all_count false left.0,
                  ap {B = ℕ}
                      (λ b. cond b 1 0) other,
                )
              ] refl
        ]
        one (New copy) e rest =
            let from = new_from items file before h copy e in
            let i : Item = record { identity = (known_as p n h (New copy)).identity; content = h.content } in
            let head = sum_by-cons (λ (j : Item). cond (is_c j.content) 1 0) i
            (new_items (names_behind p n items file (before ++ h ∷ []) hs) hs) in
            elim (is_c h.content) as (λ v. is_c h.content ≡ v
            → count_by (λ j. is_c j.content) (i ∷ new_items (names_behind p n items file (before ++ h ∷ []) hs)
            hs) + (others_before before - copies (λ j. j.content) c pool)
            ≡ (others_before before + copies (λ x. x) c (others items before (h ∷ hs))) - copies
            (λ j. j.content) c
            pool) [
              | true ↦ λ same.
                  let past : copies (λ j. j.content) c pool ≤ others_before before =
                  at_place same (λ a b. b ≤ a) (past_end (alike h.content pool)
                  (copies (λ x. x) h.content (others items [] before)) from.1) in
                  omega (
                    arith,
                    rest,
                    past,
                    head,
                    next_count false from.0,
                    all_count false from.0,
                    ap {B = ℕ}
                        (λ b. cond b 1 0) same,
                  )
              | false ↦ λ other. omega (
                arith,
                rest,
                head,
                next_count false from.0,
                all_count false from.0,
                ap {B = ℕ}
                    (λ b. cond b 1 0) other,
              )
            ] refl

    pub new_differ : count_by (λ i. is_c i.content) (new_items (names_of p n items file) file)
        ≡ copies (λ h. h.content) c file - copies (λ i. i.content) c items
    new_differ = omega (arith, new_count [] file, package_count, file_count [] file)

-- ---- what goes

-- the items of a file that stand under old names
abbrev old_items : List Named → List HeldItem → List Item
old_items [] hs = []
old_items (n ∷ ns) [] = []
old_items (n ∷ ns) (h ∷ hs) = cond n.is_new [] (record { identity = n.identity; content = h.content } ∷ [])
    ++ old_items ns hs

-- each item of the file is new or old
all_count_of : (R : HeldItem → Named → Type 0) (c : Content) (hs : List HeldItem) (ns : List Named)
    → AllZip R hs ns
    → copies (λ h. h.content) c hs ≡ count_by (λ i. same_content c i.content) (new_items ns hs) + count_by
    (λ i. same_content c i.content) (old_items ns hs)
all_count_of R c [] [] all = omega arith
all_count_of R c [] (n ∷ ns) all = absurd all
all_count_of R c (h ∷ hs) [] all = absurd all
all_count_of R c (h ∷ hs) (n ∷ ns) all =
    let rest = all_count_of R c hs ns all.1 in
    let i : Item = record { identity = n.identity; content = h.content } in
    let f : Item → ℕ = λ j. cond (same_content c j.content) 1 0 in
    let head = sum_by-cons (λ (g : HeldItem). cond (same_content c g.content) 1 0) h hs in
    elim n.is_new as (λ v. copies (λ g. g.content) c (h ∷ hs)
    ≡ count_by (λ j. same_content c j.content) (cond v (i ∷ []) [] ++ new_items ns hs) + count_by
    (λ j. same_content c j.content) (cond v [] (i ∷ []) ++ old_items ns hs)) [
      | true ↦ omega (arith, rest, head, sum_by-cons f i (new_items ns hs))
      | false ↦ omega (arith, rest, head, sum_by-cons f i (old_items ns hs))
    ]

-- of one identity as many as of the old names
old_count : (R : HeldItem → Named → Type 0) (k : List ℕ) (hs : List HeldItem) (ns : List Named) → AllZip R hs ns
    → count_by (λ i. bytes_eq i.identity k) (old_items ns hs)
    ≡ count_by (λ n. bytes_eq n.identity k) (filter (λ n. not n.is_new) ns)
old_count R k [] [] all = omega arith
old_count R k [] (n ∷ ns) all = absurd all
old_count R k (h ∷ hs) [] all = absurd all
old_count R k (h ∷ hs) (n ∷ ns) all =
    let rest = old_count R k hs ns all.1 in
    let i : Item = record { identity = n.identity; content = h.content } in
    elim n.is_new as (λ v. count_by (λ j. bytes_eq j.identity k) (cond v [] (i ∷ []) ++ old_items ns hs)
    ≡ count_by (λ m. bytes_eq m.identity k) (cond (not v) (n ∷ filter (λ m. not m.is_new) ns)
    (filter (λ m. not m.is_new) ns))) [
      | true ↦ rest
      | false ↦ omega (
        arith,
        rest,
        sum_by-cons (λ (j : Item). cond (bytes_eq j.identity k) 1 0) i (old_items ns hs),
        sum_by-cons (λ (m : Named). cond (bytes_eq m.identity k) 1 0) n (filter (λ m. not m.is_new) ns),
      )
    ]

-- an old item of the file, and its name
record OldOne (R : HeldItem → Named → Type 0) (ns : List Named) (i : Item) : Type 0 where
  pub beside : HeldItem
  pub name : Named
  pub there : In name ns
  pub fits : R beside name
  pub old : name.is_new ≡ false
  pub is : i ≡ record { identity = name.identity; content = beside.content }

old_one : (R : HeldItem → Named → Type 0) (hs : List HeldItem) (ns : List Named) (i : Item) → AllZip R hs ns
    → In i (old_items ns hs) → OldOne R ns i
old_one R [] [] i all there = absurd there
old_one R [] (n ∷ ns) i all there = absurd all
old_one R (h ∷ hs) [] i all there = absurd all
old_one R (h ∷ hs) (n ∷ ns) i all there =
    elim n.is_new as (λ v. n.is_new ≡ v → In i (cond v [] (record { identity = n.identity; content = h.content }
    ∷ [])
    ++ old_items ns hs) → OldOne R (n ∷ ns) i) [
      | true ↦ λ _ later. behind (old_one R hs ns i all.1 later)
      | false ↦ λ e here. elim here [
        | inl same ↦ record { beside = h; name = n; there = inl refl; fits = all.0; old = e; is = sym same }
        | inr later ↦ behind (old_one R hs ns i all.1 later)
      ]
    ] refl there
  where
    behind : OldOne R ns i → OldOne R (n ∷ ns) i
    behind o = record { beside = o.beside; name = o.name; there = inr o.there; fits = o.fits; old = o.old; is = o.is }

old_at : (R : HeldItem → Named → Type 0) (hs : List HeldItem) (ns : List Named) (n : Named) → AllZip R hs ns
    → In n ns
    → n.is_new ≡ false
    → (h : HeldItem) × R h n × In (record { identity = n.identity; content = h.content }) (old_items ns hs)
old_at R [] [] n all i old = absurd i
old_at R [] (m ∷ ms) n all i old = absurd all
old_at R (h ∷ hs) [] n all i old = absurd all
old_at R (h ∷ hs) (m ∷ ms) n all i old = elim i [
  | inl e ↦
      let was : m.is_new ≡ false = ap (λ x. x.is_new) e ∙ old in (
        h,
        subst (R h) e all.0,
        subst (λ v. In {X = Item} (record { identity = n.identity; content = h.content })
            (cond v [] (record { identity = m.identity; content = h.content } ∷ []) ++ old_items ms hs)) (sym was)
            (inl (ap (λ x. record { identity = x.identity; content = h.content }) e)),
      )
  | inr later ↦
      let it = old_at R hs ms n all.1 later old in (
        it.0,
        it.1,
        In-append (record { identity = n.identity; content = it.0.content })
            (cond m.is_new [] (record { identity = m.identity; content = h.content } ∷ [])) (old_items ms hs)
            (inr it.2),
      )
]

module _ (p : List ℕ) (ticket : ℕ) (items : List Item) (file : List HeldItem) (c : Content)
    (distinct : IsDistinct bytes_eq (identities items))
    (fresh : list_any (λ n. n.is_new && has (λ i. i.identity) n.identity items) (names_of p ticket items file)
    ≡ false) where
  abbrev ns : List Named
  ns = names_of p ticket items file

  abbrev stays : Item → Bool
  stays i = same_content c i.content && has (λ n. n.identity) i.identity (names_of p ticket items file)

  abbrev kept_list : List Item
  kept_list = filter stays items

  abbrev old_list : List Item
  old_list = filter (λ i. same_content c i.content) (old_items (names_of p ticket items file) file)

  zip : AllZip (HoldsUnder items) file (names_of p ticket items file)
  zip = old_names p ticket items file

  to_old : (i : Item) → In i kept_list → In i old_list
  to_old i there =
      let it = of_filter stays i items there in
      let parts = and_parts (same_content c i.content) (has (λ n. n.identity) i.identity ns) it.1 in
      let n = any_at (λ m. bytes_eq m.identity i.identity) ns parts.1 in
      let held : has (λ j. j.identity) n.0.identity items ≡ true =
      any_in (λ j. bytes_eq j.identity n.0.identity) i items it.0
      ((bytes_eq-Decides i.identity n.0.identity).1 (sym
      ((bytes_eq-Decides n.0.identity i.identity).0 n.2))) in
      let none : (n.0.is_new && has (λ j. j.identity) n.0.identity items) ≡ false =
      All-In (λ m. (m.is_new && has (λ (j : Item). j.identity) m.identity items) ≡ false) n.0 ns
      (none_pass (λ m. m.is_new && has (λ (j : Item). j.identity) m.identity items) ns fresh) n.1 in
      let old : n.0.is_new ≡ false = false_by n.0.is_new (λ new. true≢false
      (sym (and_from n.0.is_new (has (λ j. j.identity) n.0.identity items) new held) ∙ none)) in
      let z = old_at (HoldsUnder items) file ns n.0 zip n.1 old in
      let u : Item = record { identity = n.0.identity; content = z.0.content } in
      let same : u ≡ i = two_are_one (λ j. bytes_eq j.identity i.identity) u i items
      (distinct_counts (λ j. j.identity) i.identity items distinct) (old_stands items z.0 n.0 old z.1) it.0
      n.2 (bytes_eq_itself i.identity) in
      In-filter (λ j. same_content c j.content) i (old_items ns file) (subst (λ j. In j (old_items ns file)) same z.2)
      parts.0

  to_kept : (i : Item) → In i old_list → In i kept_list
  to_kept i there =
      let it = of_filter (λ j. same_content c j.content) i (old_items ns file) there in
      let o = old_one (HoldsUnder items) file ns i zip it.0 in
      let held : In i items = subst (λ j. In j items) (sym o.is) (old_stands items o.beside o.name o.old o.fits) in
      let named : has (λ n. n.identity) i.identity ns ≡ true =
      any_in (λ m. bytes_eq m.identity i.identity) o.name ns o.there
      ((bytes_eq-Decides o.name.identity i.identity).1 (sym (ap (λ j. j.identity) o.is))) in
      In-filter stays i items held (and_from (same_content c i.content) (has (λ n. n.identity) i.identity ns) it.1
      named)

  by_identity : (xs : List Item) → ((k : List ℕ) → count_by (λ i. bytes_eq i.identity k) xs ≤ 1)
      → (k : List ℕ)
      → count_by (λ i. bytes_eq (item_key i) k) xs ≤ 1
  by_identity xs once k = omega (
    arith,
    count_le (λ i. bytes_eq (item_key i) k) (λ i. bytes_eq i.identity (drop 1 k))
        (λ i e. (bytes_eq-Decides i.identity (drop 1 k)).1 (ap (drop 1) ((bytes_eq-Decides (item_key i) k).0 e))) xs,
    once (drop 1 k),
  )

  one_list : arranged item_key kept_list ≡ arranged item_key old_list
  one_list = same_list item_key (arranged item_key kept_list) (arranged item_key old_list)
      (arranged_counts item_key kept_list (by_identity kept_list
      (λ k. omega (
        arith,
        distinct_counts (λ i. i.identity) k items distinct,
        filter_less
            (λ i. cond (bytes_eq i.identity k) 1 0) stays items,
      ))))
      (arranged_counts item_key old_list (by_identity old_list (λ k. omega (
        arith,
        filter_less (λ i. cond (bytes_eq i.identity k) 1 0) (λ i. same_content c i.content) (old_items ns file),
        old_count (HoldsUnder items) k file ns zip,
        distinct_counts (λ n. n.identity) k (filter (λ n. not n.is_new) ns)
            (old_names_differ p ticket items file distinct),
      ))))
      (λ i there. into_arranged item_key old_list i (to_old i (in_arranged item_key kept_list i there)))
      (λ i there. into_arranged item_key kept_list i (to_kept i (in_arranged item_key old_list i there)))

  as_many : count_by stays items ≡ count_by (λ i. same_content c i.content) (old_items ns file)
  as_many =
      let ones : Item → ℕ = λ i. 1 in
      let long : (xs : List Item) → sum_by ones xs ≡ length xs = λ xs. length_sum ones (λ i. refl) xs in
      sym (length_filter stays items) ∙ sym (long kept_list) ∙ sym (sum_by-arranged item_key ones kept_list)
      ∙ ap (sum_by ones) one_list ∙ sum_by-arranged item_key ones old_list ∙ long old_list
      ∙ length_filter (λ i. same_content c i.content) (old_items ns file)

  gone_differ : count_by (λ i. same_content c i.content) (gone ns items)
      ≡ copies (λ i. i.content) c items - copies (λ h. h.content) c file
  gone_differ = omega (
    arith,
    count_split (λ i. same_content c i.content) (λ i. has (λ n. n.identity) i.identity ns)
        items,
    as_many,
    all_count_of (HoldsUnder items) c file ns zip,
    new_differ items file distinct c p ticket,
  )

pub only_what_differs : OnlyWhatDiffers
only_what_differs p ticket items file content distinct fresh =
    (new_differ items file distinct content p ticket, gone_differ p ticket items file content distinct fresh)
