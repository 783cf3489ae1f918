-- What comes from one package into another, part after part.
use Rattle.std.specs.Prelude.{◌≡◌, ◌⊎◌, ℕ, ◌+◌, ◌-◌, ◌<◌, ◌≤◌, Bool, true, false}
use Rattle.std.specs.Prelude.{List, [], ◌∷◌, ◌++◌, take, drop}
use Rattle.std.specs.Prelude.{length, Option, Some, None, Result, Ok, Err, IsTrue, refl, min, slice_range}
use Rattle.std.proofs.Common.{inl, inr, sym, ap, subst, ◌∙◌, arith}
use Rattle.std.proofs.Math.Nat.{sub-zero, zero-sub, sub-eq-zero_of_le}
use Rattle.std.proofs.lemmas.List.{length-drop}
use Rattle.std.proofs.lemmas.Bool.{cases_order}
use Rattle.std.proofs.lemmas.List.{append-nil, take-take, take_all, take-append-drop, drop-take}
use Rattle.std.proofs.lemmas.List.Elements.{filter_map-append}
use Rattle.std.proofs.Math.ListN.{drop_of_length-le}
use Rattle.std.specs.List.{filter_map, cons_option}
use Rattle.sqlite.specs.Effect.{Database}
use Rattle.sqlite.specs.State.{State, HasCleanDisk}
use Rattle.store_sql.specs.Staying.{Stays}
use Rattle.store_sql.specs.Transactions.{Steps, Holds}
use Rattle.store_sql.specs.Writing.{Chained, EachChained}
use Rattle.store_sql.proofs.Transactions.{steps_answer, steps_then, steps_weaker, same_survives}
use Rattle.package_tables.specs.declared.fault.Fault.{Fault}
use Rattle.sheet_types.specs.Cut.{Cut}
use Rattle.sheet_types.specs.World.{Package, item_of}
use Rattle.sheet_types.specs.declared.frame.Frame.{Frame}
use Rattle.sheet_types.specs.declared.command.Item.{Item}
use Rattle.sheet_types.specs.declared.command.Relation.{Relation}
use Rattle.identity_register.specs.Reads.{Reads}
use Rattle.transfer.specs.Parcels.{Names, selected, part}
use Rattle.transfer.specs.Moves.{PutsItem, PutsLink, PutsEach, TriesItem, TriesItems, TriesEach, Overfills, Takes}
use Rattle.transfer.specs.Moves.{IsTooMuch, OfSource}
use Rattle.transfer.proofs.Coming.{cut_in, too_much}

-- ---- chains

pub chain_append : {X : Type 0} (Change : X → Database → Database → Type 0) (xs ys : List X) (a m b : Database)
    → EachChained Change xs a m → EachChained Change ys m b → EachChained Change (xs ++ ys) a b
chain_append Change [] ys a m b same next = subst (λ (d : Database). EachChained Change ys d b) same next
chain_append Change (x ∷ xs) ys a m b first next = (
  first.0,
  first.1,
  chain_append Change xs ys first.0 m b first.2
      next,
)

overfills_after : (xs ys : List Item) (a m : Database) → EachChained PutsItem xs a m → Overfills ys m
    → Overfills (xs ++ ys) a
overfills_after [] ys a m same over = subst (Overfills ys) same over
overfills_after (x ∷ xs) ys a m chain over = inr (chain.0, chain.1, overfills_after xs ys chain.0 m chain.2 over)

overfills_more : (xs ys : List Item) (a : Database) → Overfills xs a → Overfills (xs ++ ys) a
overfills_more [] ys a over = absurd over
overfills_more (x ∷ xs) ys a over = elim over [
  | inl full ↦ inl full
  | inr next
      ↦ inr (next.0, next.1, overfills_more xs ys next.0 next.2)
]

-- ---- the source stays

abbrev IsSource : Frame → Package → State → Type 0
IsSource f p s = IsTrue s.is_open → Reads f p s.now

source_later : (f : Frame) (p : Package) (a b : State) → Stays a b → IsSource f p a → IsSource f p b
source_later f p a b stays reads is_open = subst (Reads f p) (sym (stays.holds is_open).now_is)
    (reads (stays.was_open is_open))

-- a change of the target that what the source reads as determines
abbrev pub From : State → State → (Package → Database → Database → Type 0) → Database → Database
    → Type 0
From s new Change a b = HasCleanDisk new → OfSource s (λ p. Change p a b)

-- one such change after the other
pub from_then : {X Y E F : Type 0} (First : Package → X → Database → Database → Type 0)
    (Next : Package → Y → Database → Database → Type 0) (s0 s1 s2 : State) {t0 t1 t2 : State} {x : X} {y : Y}
    → Stays s0 s1 → Stays s1 s2
    → Steps {E = E} (λ z. From s0 s1 (λ p. First p z)) t0 t1 (Ok x)
    → Steps {E = F} (λ z. From s1 s2 (λ p. Next p z)) t1 t2 (Ok y)
    → Steps {E = F} (λ z. From s0 s2 (λ p. Chained (First p x) (Next p z))) t0 t2 (Ok y)
from_then First Next s0 s1 s2 {t0} {t1} {t2} {x} {y} one two first next =
    steps_answer (λ z. From s0 s2 (λ p. Chained (First p x) (Next p z))) y
    (λ it clean f p reads. (
      it.0,
      it.1 (omega (arith, two.survives.clean, clean)) f p reads,
      it.2 clean f p
          (source_later f p s0 s1 one reads),
    ))
    (steps_then first next)

-- a change of the target that looks at no source
pub from_none : {X E : Type 0} (Change : X → Database → Database → Type 0) (s new : State) {old t : State}
    {r : Result X E} → Steps Change old t r → Steps (λ x. From s new (λ _. Change x)) old t r
from_none Change s new steps = steps_weaker (λ x. From s new (λ _. Change x)) (λ x it clean f p reads. it) steps

-- the change as a caller says it
pub from_so : {X Y E F : Type 0} {First : Package → X → Database → Database → Type 0}
    (Next : Package → Y → Database → Database → Type 0) (s new : State) {old t : State} {x : X} (y : Y)
    → ((p : Package) (a b : Database) → First p x a b → Next p y a b)
    → Steps {E = E} (λ z. From s new (λ p. First p z)) old t (Ok x)
    → Steps {E = F} (λ z. From s new (λ p. Next p z)) old t (Ok y)
from_so {X} {Y} {E} {F} {First} Next s new {old} {t} {x} y so steps =
    steps_answer {E = E} {F = F} (λ z. From s new (λ p. Next p z)) y
    (λ it clean f p reads. so p old.now t.now (it clean f p reads)) steps

-- ---- items

abbrev pub ItemsFrom : List (List ℕ) → Package → Bool → Database → Database → Type 0
ItemsFrom ids p came = TriesItems (filter_map (item_of p) ids) came

abbrev pub EachFrom : List (List ℕ) → Package → Unit {0} → Database → Database → Type 0
EachFrom ids p _ = EachChained PutsItem (filter_map (item_of p) ids)

tries_one : (i : Item) (came : Bool) (a b : Database) → TriesItem i came a b → TriesItems (i ∷ []) came a b
tries_one i true a b put = (b, put, refl)
tries_one i false a b full = inl full

-- an item that was found in the source
pub carried_one : {E : Type 0} (id : List ℕ) (i : Item) (s0 s1 : State) {old new : State} {r : Result Bool E}
    → (HasCleanDisk s1 → OfSource s0 (λ p. item_of p id ≡ Some i)) → Steps (TriesItem i) old new r
    → Steps (λ came. From s0 s1 (λ p. ItemsFrom (id ∷ []) p came)) old new r
carried_one id i s0 s1 {old} {new} told steps = steps_weaker (λ came. From s0 s1 (λ p. ItemsFrom (id ∷ []) p came))
    (λ came it clean f p reads. subst (λ o. TriesItems (cons_option o []) came old.now new.now)
    (sym (told clean f p reads)) (tries_one i came old.now new.now it)) steps

pub carried_more : {E F : Type 0} (ids done later : List (List ℕ)) (came : Bool) (s0 s1 s2 : State) {t0 t1 t2 : State}
    → done ++ later ≡ ids → came ≡ true → Stays s0 s1 → Stays s1 s2
    → Steps {E = E} (λ x. From s0 s1 (λ p. EachFrom done p x)) t0 t1 (Ok tt)
    → Steps {E = F} (λ x. From s1 s2 (λ p. ItemsFrom later p x)) t1 t2 (Ok came)
    → Steps {E = F} (λ x. From s0 s2 (λ p. EachFrom ids p x)) t0 t2 (Ok tt)
carried_more ids done later came s0 s1 s2 whole is one two first next =
    from_so (EachFrom ids) s0 s2 tt
    (λ p a b it. subst (λ xs. EachChained PutsItem xs a b) (sym (filter_map-append (item_of p) done later)
    ∙ ap (filter_map (item_of p)) whole)
    (chain_append PutsItem (filter_map (item_of p) done) (filter_map (item_of p) later) a it.0 b it.1
    (subst (λ v. ItemsFrom later p v it.0 b) is it.2)))
    (from_then (EachFrom done) (ItemsFrom later) s0 s1 s2 one two first next)

pub carried_stop : {E F : Type 0} (ids done later rest : List (List ℕ)) (came : Bool) (s0 s1 s2 : State)
    {t0 t1 t2 : State} → done ++ (later ++ rest) ≡ ids → came ≡ false → Stays s0 s1 → Stays s1 s2
    → Steps {E = E} (λ x. From s0 s1 (λ p. EachFrom done p x)) t0 t1 (Ok tt)
    → Steps {E = F} (λ x. From s1 s2 (λ p. ItemsFrom later p x)) t1 t2 (Ok came)
    → Steps {E = F} (λ x. From s0 s2 (λ p. ItemsFrom ids p x)) t0 t2 (Ok false)
carried_stop ids done later rest came s0 s1 s2 whole is one two first next =
    from_so (ItemsFrom ids) s0 s2 false
    (λ p a b it. subst (λ xs. Overfills xs a) (ap (λ l. filter_map (item_of p) done ++ l)
    (sym (filter_map-append (item_of p) later rest)) ∙ sym (filter_map-append (item_of p) done (later ++ rest))
    ∙ ap (filter_map (item_of p)) whole)
    (overfills_after (filter_map (item_of p) done) (filter_map (item_of p) later ++ filter_map (item_of p) rest) a
    it.0 it.1
    (overfills_more (filter_map (item_of p) later) (filter_map (item_of p) rest) it.0
    (subst (λ v. ItemsFrom later p v it.0 b) is it.2))))
    (from_then (EachFrom done) (ItemsFrom later) s0 s1 s2 one two first next)

-- ---- parts

abbrev pub CutFrom : Names → Package → Bool → Database → Database → Type 0
CutFrom n p came = TriesEach (selected n p) came

abbrev pub WholeFrom : Names → Package → Unit {0} → Database → Database → Type 0
WholeFrom n p _ = PutsEach (selected n p)

-- items of the source, and then links
pub part_in : {E F : Type 0} (n : Names) (came : Bool) (s0 s1 : State) {t0 t1 t2 : State} {x : Unit {0}}
    → came ≡ true
    → Stays s0 s1 → Stays s1 s1
    → Steps {E = E} (λ v. From s0 s1 (λ p. ItemsFrom n.identities p v)) t0 t1 (Ok came)
    → Steps {X = Unit {0}} {E = F} (λ _. EachChained PutsLink n.links) t1 t2 (Ok x)
    → Steps {E = F} (λ v. From s0 s1 (λ p. CutFrom n p v)) t0 t2 (Ok true)
part_in n came s0 s1 is one two items links =
    from_so (CutFrom n) s0 s1 true (λ p a b it. (it.0, subst (λ v. ItemsFrom n.identities p v a it.0) is it.1, it.2))
    (from_then (ItemsFrom n.identities) (λ p _. EachChained PutsLink n.links) s0 s1 s1 one two items
    (from_none (λ _. EachChained PutsLink n.links) s1 s1 links))

pub part_stop : {E F : Type 0} (n : Names) (came : Bool) (s0 s1 : State) {t0 t1 : State} → came ≡ false
    → Steps {E = E} (λ v. From s0 s1 (λ p. ItemsFrom n.identities p v)) t0 t1 (Ok came)
    → Steps {E = F} (λ v. From s0 s1 (λ p. CutFrom n p v)) t0 t1 (Ok false)
part_stop n came s0 s1 is items = from_so (CutFrom n) s0 s1 false
    (λ p a b it. subst (λ v. ItemsFrom n.identities p v a b) is it) items

-- ---- parts of names

range_zero : {X : Type 0} (xs : List X) (to : ℕ) → slice_range xs 0 to ≡ take to xs
range_zero xs to = ap (λ n. take n xs) (sub-zero to)

range_next : {X : Type 0} (xs : List X) (from to : ℕ) → from ≤ to
    → take from xs ++ slice_range xs from to ≡ take to xs
range_next xs from to order =
    let end : from + (to - from) ≡ to = omega (arith, order) in
    let range : slice_range xs from to ≡ drop from (take to xs) =
    sym (drop-take from (to - from) xs) ∙ ap (λ n. drop from (take n xs)) end in
    ap (λ l. take from xs ++ l) range ∙ ap (λ l. l ++ drop from (take to xs)) (sym (take-take from to xs order))
    ∙ take-append-drop from (take to xs)

range_past : {X : Type 0} (xs : List X) (from to : ℕ) → length xs ≤ from → slice_range xs from to ≡ []
range_past xs from to past = ap (take (to - from)) (drop_of_length-le xs past) ∙ take_all (to - from) [] (omega arith)

-- a range that is cut off at the end is the same
pub clipped : {X : Type 0} (xs : List X) (from to : ℕ) → from ≤ to
    → slice_range xs (min from (length xs)) (min to (length xs)) ≡ slice_range xs from to
clipped xs from to order = elim (cases_order from (length xs)) [
  | inl same ↦ past (omega (arith, same))
  | inr apart ↦ elim apart [
    | inl before ↦ within before
    | inr after ↦ past (omega (arith, after))
  ]
]
  where
    past : length xs ≤ from → slice_range xs (min from (length xs)) (min to (length xs)) ≡ slice_range xs from to
    past h = range_past xs (min from (length xs)) (min to (length xs)) (omega (arith, h))
        ∙ sym (range_past xs from to h)

    finish : from < length xs → slice_range xs from (min to (length xs)) ≡ slice_range xs from to
    finish h = elim (cases_order to (length xs)) [
      | inl same ↦ ap (slice_range xs from) (let e : min to (length xs) ≡ to = omega (arith, same) in e)
      | inr apart ↦ elim apart [
        | inl before ↦ ap (slice_range xs from) (let e : min to (length xs) ≡ to = omega (arith, before) in e)
        | inr after ↦
            let end : min to (length xs) ≡ length xs = omega (arith, after) in
            let left : length (drop from xs) ≡ length xs - from = length-drop from xs in
            ap (slice_range xs from) end ∙ take_all (length xs - from) (drop from xs) (omega (arith, left))
            ∙ sym (take_all (to - from) (drop from xs) (omega (arith, left, after)))
      ]
    ]

    within : from < length xs → slice_range xs (min from (length xs)) (min to (length xs)) ≡ slice_range xs from to
    within h = let start : min from (length xs) ≡ from = omega (arith, h) in ap
        (λ a. slice_range xs a (min to (length xs))) start ∙ finish h

-- the names up to a position
abbrev pub first : ℕ → Names → Names
first to n = record { identities = take to n.identities; links = take (to - length n.identities) n.links }

-- no link comes before the last item
module _ (from : ℕ) (to : ℕ) (n : Names) where
  abbrev parted : Type 0
  parted = (take (from - length n.identities) n.links ≡ []) ⊎ (slice_range n.identities from to ≡ [])

  pub links_last : parted
  links_last = elim (cases_order from (length n.identities)) [
    | inl same ↦ inl (ap (λ k. take k n.links) (sub-eq-zero_of_le (omega arith)))
    | inr apart ↦ elim apart [
      | inl before ↦ inl (ap (λ k. take k n.links) (sub-eq-zero_of_le (omega arith)))
      | inr after ↦ inr (range_past n.identities from to (omega arith))
    ]
  ]

-- items and links in two parts
regroup : (is js : List Item) (ls ms : List Relation) (a m b : Database) → (ls ≡ []) ⊎ (js ≡ [])
    → Chained (EachChained PutsItem is) (EachChained PutsLink ls) a m
    → Chained (EachChained PutsItem js) (EachChained PutsLink ms) m b
    → Chained (EachChained PutsItem (is ++ js)) (EachChained PutsLink (ls ++ ms)) a b
regroup is js ls ms a m b apart one two = elim apart [
  | inl none ↦
      let same : m ≡ one.0 = subst (λ l. EachChained PutsLink l one.0 m) none one.2 in (
        two.0,
        chain_append PutsItem is js a m two.0 (subst (EachChained PutsItem is a) (sym same) one.1) two.1,
        subst
            (λ l. EachChained PutsLink (l ++ ms) two.0 b) (sym none) two.2,
      )
  | inr none ↦
      let same : two.0 ≡ m = subst (λ l. EachChained PutsItem l m two.0) none two.1 in (
        one.0,
        subst (λ l. EachChained PutsItem l a one.0) (sym (append-nil is) ∙ ap (λ l. is ++ l) (sym none)) one.1,
        chain_append PutsLink ls ms one.0 m b one.2 (subst (λ (d : Database). EachChained PutsLink ms d b) same
            two.2),
      )
]

pub part_more : (from to : ℕ) (n : Names) (p : Package) (a m b : Database) → from ≤ to
    → PutsEach (selected (first from n) p) a m → PutsEach (selected (part from to n) p) m b
    → PutsEach (selected (first to n) p) a b
part_more from to n p a m b order one two =
    let items : filter_map (item_of p) (take from n.identities)
    ++ filter_map (item_of p) (slice_range n.identities from to)
    ≡ filter_map (item_of p) (take to n.identities) =
    sym (filter_map-append (item_of p) (take from n.identities) (slice_range n.identities from to))
    ∙ ap (filter_map (item_of p)) (range_next n.identities from to order) in
    let links : take (from - length n.identities) n.links ++ slice_range n.links (from - length n.identities)
    (to - length n.identities) ≡ take (to - length n.identities) n.links =
    range_next n.links (from - length n.identities) (to - length n.identities) (omega (arith, order)) in
    subst (λ l. Chained (EachChained PutsItem (filter_map (item_of p) (take to n.identities)))
    (EachChained PutsLink l) a b) links
    (subst (λ l. Chained (EachChained PutsItem l) (EachChained PutsLink
    (take (from - length n.identities) n.links ++ slice_range n.links (from - length n.identities)
    (to - length n.identities))) a b) items
    (regroup (filter_map (item_of p) (take from n.identities))
    (filter_map (item_of p) (slice_range n.identities from to)) (take (from - length n.identities) n.links)
    (slice_range n.links (from - length n.identities) (to - length n.identities)) a m b
    (elim (links_last from to n) [ inl none ↦ inl none | inr none ↦ inr (ap (filter_map (item_of p)) none) ]) one
    two))

-- what does not fit at the next part does not fit at all
pub part_stops : (from to : ℕ) (n : Names) (p : Package) (a m : Database) → from ≤ to
    → PutsEach (selected (first from n) p) a m → Overfills (filter_map (item_of p)
    (slice_range n.identities from to))
    m → Overfills (filter_map (item_of p) n.identities) a
part_stops from to n p a m order one over =
    let h = filter_map (item_of p) in
    let all : (h (take from n.identities) ++ h (slice_range n.identities from to)) ++ h (drop to n.identities)
    ≡ h n.identities =
    ap (λ l. l ++ h (drop to n.identities)) (sym (filter_map-append (item_of p) (take from n.identities)
    (slice_range n.identities from to)) ∙ ap h (range_next n.identities from to order))
    ∙ sym (filter_map-append (item_of p) (take to n.identities) (drop to n.identities))
    ∙ ap h (take-append-drop to n.identities) in
    elim (links_last from to n) [
      | inl none ↦
          let same : m ≡ one.0 = subst (λ l. EachChained PutsLink l one.0 m) none one.2 in
          subst (λ l. Overfills l a) all (overfills_more (h (take from n.identities)
          ++ h (slice_range n.identities from to)) (h (drop to n.identities)) a
          (overfills_after (h (take from n.identities)) (h (slice_range n.identities from to)) a m
          (subst (EachChained PutsItem (h (take from n.identities)) a) (sym same) one.1) over))
      | inr none ↦ absurd (subst (λ l. Overfills (h l) m) none over)
    ]

-- all names
pub first_all : (to : ℕ) (n : Names) → length n.identities + length n.links ≤ to → first to n ≡ n
first_all to n all =
    ap (λ l. record { identities = l; links = take (to - length n.identities) n.links })
    (take_all to n.identities (omega (arith, all)))
    ∙ ap (λ l. record { identities = n.identities; links = l })
    (take_all (to - length n.identities) n.links (omega (arith, all)))

-- ---- the whole, part after part

pub whole_none : (n : Names) (p : Package) (a : Database) → PutsEach (selected (first 0 n) p) a a
whole_none n p a = (
  a,
  refl,
  subst (λ l. EachChained PutsLink l a a)
      (sym (ap (λ k. take k n.links) (zero-sub (length n.identities)))) refl,
)

pub whole_more : {E F : Type 0} (from to : ℕ) (n : Names) (came : Bool) (s0 s1 s2 : State) {t0 t1 t2 : State}
    → from ≤ to → came ≡ true → Stays s0 s1 → Stays s1 s2
    → Steps {E = E} (λ x. From s0 s1 (λ p. WholeFrom (first from n) p x)) t0 t1 (Ok tt)
    → Steps {E = F} (λ v. From s1 s2 (λ p. CutFrom (part from to n) p v)) t1 t2 (Ok came)
    → Steps {E = F} (λ x. From s0 s2 (λ p. WholeFrom (first to n) p x)) t0 t2 (Ok tt)
whole_more from to n came s0 s1 s2 order is one two before next =
    from_so (WholeFrom (first to n)) s0 s2 tt (λ p a b it. part_more from to n p a it.0 b order it.1
    (subst (λ v. CutFrom (part from to n) p v it.0 b) is it.2))
    (from_then (WholeFrom (first from n)) (CutFrom (part from to n)) s0 s1 s2 one two before next)

pub whole_stop : {E F : Type 0} (from to : ℕ) (n : Names) (came : Bool) (s0 s1 s2 : State) {t0 t1 t2 : State}
    → from ≤ to → came ≡ false → Stays s0 s1 → Stays s1 s2
    → Steps {E = E} (λ x. From s0 s1 (λ p. WholeFrom (first from n) p x)) t0 t1 (Ok tt)
    → Steps {E = F} (λ v. From s1 s2 (λ p. CutFrom (part from to n) p v)) t1 t2 (Ok came)
    → Steps {E = F} (λ v. From s0 s2 (λ p. CutFrom n p v)) t0 t2 (Ok false)
whole_stop from to n came s0 s1 s2 order is one two before next =
    from_so (CutFrom n) s0 s2 false (λ p a b it. part_stops from to n p a it.0 order it.1
    (subst (λ v. CutFrom (part from to n) p v it.0 b) is it.2))
    (from_then (WholeFrom (first from n)) (CutFrom (part from to n)) s0 s1 s2 one two before next)

pub whole_all : {E F : Type 0} (to : ℕ) (n : Names) (s0 s1 : State) {t0 t1 : State}
    → length n.identities + length n.links ≤ to → Steps {E = E}
    (λ x. From s0 s1 (λ p. WholeFrom (first to n) p x)) t0
    t1 (Ok tt) → Steps {E = F} (λ v. From s0 s1 (λ p. CutFrom n p v)) t0 t1 (Ok true)
whole_all to n s0 s1 all steps = from_so (CutFrom n) s0 s1 true
    (λ p a b it. subst (λ m. PutsEach (selected m p) a b) (first_all to n all) it) steps

-- ---- what it means

pub taken_from : {E F : Type 0} (n : Names) (came : Bool) (s0 s1 : State) {t0 t1 : State} {X : Type 0} (x : X)
    → came ≡ true → Steps {E = E} (λ v. From s0 s1 (λ p. CutFrom n p v)) t0 t1 (Ok came)
    → Steps {X = X} {E = F} (λ _. From s0 s1 (λ p. Takes (selected n p))) t0 t1 (Ok x)
taken_from n came s0 s1 x is steps = from_so (λ p _. Takes (selected n p)) s0 s1 x
    (λ p a b it. cut_in (selected n p) a b (subst (λ v. CutFrom n p v a b) is it)) steps

pub too_much_from : {E : Type 0} (n : Names) (came : Bool) (s0 s1 : State) {t0 t1 : State} → came ≡ false
    → Steps {E = E} (λ v. From s0 s1 (λ p. CutFrom n p v)) t0 t1 (Ok came) → HasCleanDisk s1 → HasCleanDisk t1
    → IsTrue t0.in_transaction → OfSource s0 (λ p. IsTooMuch (selected n p) t0.now)
too_much_from n came s0 s1 {t0} {t1} is steps clean disk inside f p reads =
    too_much (selected n p) t0.now (subst (λ v. CutFrom n p v t0.now t1.now) is
    ((steps.made disk inside).2 clean f p reads))

-- ---- a part of a selection, as it is cut out

pub cut_items : (d ids : List (List ℕ)) (from to a b n : ℕ) → d ≡ ids → n ≡ length ids
    → a ≡ min from n → b ≡ min to n
    → from ≤ to → slice_range d a b ≡ slice_range ids from to
cut_items d ids from to a b n same all start end order =
    ap (λ l. slice_range l a b) same ∙ ap (λ k. slice_range ids k b) (start ∙ ap (min from) all)
    ∙ ap (slice_range ids (min from (length ids))) (end ∙ ap (min to) all) ∙ clipped ids from to order

pub cut_links : (d links : List Relation) (from to a b n m : ℕ) → d ≡ links → n ≡ m → a ≡ from - n
    → b ≡ to - n
    → slice_range d a b ≡ slice_range links (from - m) (to - m)
cut_links d links from to a b n m same all start end =
    ap (λ l. slice_range l a b) same ∙ ap (λ k. slice_range links k b) (start ∙ ap (λ k. from - k) all)
    ∙ ap (slice_range links (from - m)) (end ∙ ap (λ k. to - k) all)

pub stays_same : (a b : State) → Stays a b → Stays b b
stays_same a b stays = record {
  rests = stays.rests;
  was_open = λ h. h;
  holds = λ is_open. let it =
      stays.holds is_open in subst (Holds b) (sym it.now_is) it;
  survives = same_survives b;
}
