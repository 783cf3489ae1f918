-- Items and links that come into a package one by one, and all at once.
use Rattle.std.specs.Prelude.{◌≡◌, ◌⊎◌, ℕ, ◌+◌, ◌≤◌, ◌<◌, Bool, true, false, ◌&&◌}
use Rattle.std.specs.Prelude.{◌||◌, List, [], ◌∷◌, ◌++◌, map}
use Rattle.std.specs.Prelude.{refl, bytes_eq, count_by, sum_by, cond, nat_lt}
use Rattle.std.proofs.Common.{inl, inr, sym, ap, subst, ◌∙◌, arith, length, lt-ltb}
use Rattle.sheet_types.proofs.Sums.{count-cons}
use Rattle.std.proofs.lemmas.List.Sums.{sum_by-append, sum_by-cons}
use Rattle.std.proofs.lemmas.Map.Keys.{IsDistinct-head, IsDistinct-tail}
use Rattle.std.specs.List.{AllByRecursion, IsDistinct, list_any}
use Rattle.sqlite.specs.Effect.{Database}
use Rattle.store_sql.specs.Writing.{EachChained}
use Rattle.sheet_types.specs.Ordered.{put, arranged, has, IsArranged}
use Rattle.sheet_types.specs.Cut.{Cut, identities}
use Rattle.sheet_types.specs.Refuse.{is_overfull, greatest_items, greatest_links}
use Rattle.sheet_types.specs.Register.{HasEnds}
use Rattle.sheet_types.specs.Texts.{kind_of}
use Rattle.sheet_types.specs.World.{Package, item_key, link_key, has_item, kind_number, kind_is, is_tile, is_medium}
use Rattle.sheet_types.specs.World.{is_row}
use Rattle.sheet_types.specs.declared.command.Content.{Content}
use Rattle.sheet_types.specs.declared.command.Content.TheVariants.{Tile, Media, Row}
use Rattle.sheet_types.specs.declared.command.Item.{Item}
use Rattle.sheet_types.specs.declared.command.Relation.{Relation}
use Rattle.sheet_types.specs.declared.frame.Frame.{Frame}
use Rattle.sheet_types.proofs.Every.{All-weaker, All-both, All-of_map, none_pass}
use Rattle.sheet_types.proofs.Order.{list_any-put, sum_by-arranged}
use Rattle.sheet_types.proofs.Basics.{bytes_eq_swap, or-true}
use Rattle.identity_register.specs.Changes.{item_added, link_added}
use Rattle.identity_register.specs.LocalNumbers.{KeepsNumbers}
use Rattle.identity_register.specs.Reads.{Reads}
use Rattle.identity_register.specs.Room.{IsFull}
use Rattle.identity_register.proofs.KeptNumbers.{kept_same, kept_then}
use Rattle.identity_register.proofs.OnePackage.{items_arranged, distinct_arranged}
use Rattle.package_tables.specs.Package.{tables_of}
use Rattle.transfer.specs.Parcels.{IsNewCut, with_cut}
use Rattle.transfer.specs.Moves.{PutsItem, PutsLink, PutsEach, Overfills, Takes, IsTooMuch}
use Rattle.transfer.proofs.Unions.{arranged_itself, arranged_later}

-- ---- the order of what a package has

items_in_order : (f : Frame) (q : Package) (db : Database) → Reads f q db → IsArranged item_key q.items
items_in_order f q db reads = items_arranged f (tables_of db) q reads.says

links_in_order : (f : Frame) (q : Package) (db : Database) → Reads f q db → IsArranged link_key q.links
links_in_order f q db reads = subst (IsArranged link_key) (sym reads.says.links)
    (distinct_arranged link_key reads.says.linked reads.says.distinct_links)

-- ---- keys

and_not : (a b : Bool) → b ≡ false → (a && b) ≡ false
and_not true b h = h
and_not false b h = refl

-- other identities make other keys
other_key : (i j : Item) → bytes_eq i.identity j.identity ≡ false → bytes_eq (item_key i) (item_key j) ≡ false
other_key i j h = and_not _ (bytes_eq i.identity j.identity) h

either_not : (a b : Bool) → a ≡ false → b ≡ false → (a || b) ≡ false
either_not true b h g = h
either_not false b h g = g

-- an identity that is neither among the items nor the new one
still_new : (q : Package) (i j : Item) → has_item q j.identity ≡ false → bytes_eq i.identity j.identity ≡ false
    → has_item (item_added i q) j.identity ≡ false
still_new q i j none other = list_any-put item_key (λ x. bytes_eq x.identity j.identity) i q.items
    ∙ either_not (bytes_eq i.identity j.identity) (has_item q j.identity) other none

still_absent : (q : Package) (l m : Relation) → has link_key (link_key m) q.links ≡ false
    → bytes_eq (link_key l) (link_key m) ≡ false → has link_key (link_key m) (link_added l q).links ≡ false
still_absent q l m none other = list_any-put link_key (λ x. bytes_eq (link_key x) (link_key m)) l q.links
    ∙ either_not (bytes_eq (link_key l) (link_key m)) (has link_key (link_key m) q.links) other none

-- ---- the facts that one more leaves of the others

module _ (i : Item) (items : List Item) (q : Package) (distinct : IsDistinct bytes_eq (identities (i ∷ items))) where
  others : AllByRecursion (λ j. bytes_eq i.identity j.identity ≡ false) items
  others = All-of_map (λ k. bytes_eq i.identity k ≡ false) (λ j. j.identity) items
      (IsDistinct-head bytes_eq i.identity (identities items) distinct)

  rest : IsDistinct bytes_eq (identities items)
  rest = IsDistinct-tail bytes_eq i.identity (identities items) distinct

  new_still : AllByRecursion (λ j. has_item q j.identity ≡ false) items
      → AllByRecursion (λ j. has_item (item_added i q) j.identity ≡ false) items
  new_still new = All-both (λ j. has_item q j.identity ≡ false) (λ j. bytes_eq i.identity j.identity ≡ false)
      (λ j. has_item (item_added i q) j.identity ≡ false) (λ j none other. still_new q i j none other) items new
      others

  item_later : IsArranged item_key q.items → has_item q i.identity ≡ false
      → arranged item_key (items ++ put item_key i q.items) ≡ arranged item_key ((i ∷ items) ++ q.items)
  item_later order new = arranged_later item_key items q.items i order
      (All-weaker (λ y. bytes_eq y.identity i.identity ≡ false) (λ y. bytes_eq (item_key y) (item_key i) ≡ false)
      (λ y h. other_key y i h) q.items (none_pass (λ y. bytes_eq y.identity i.identity) q.items new))
      (All-weaker (λ j. bytes_eq i.identity j.identity ≡ false) (λ j. bytes_eq (item_key j) (item_key i) ≡ false)
      (λ j h. other_key j i (bytes_eq_swap j.identity i.identity ∙ h)) items others)

-- ---- items, and links

pub items_in : (f : Frame) (items : List Item) (q : Package) (old new : Database) → Reads f q old
    → IsDistinct bytes_eq (identities items) → AllByRecursion (λ i. has_item q i.identity ≡ false) items
    → EachChained PutsItem items old new
    → Reads f (record q { items = arranged item_key (items ++ q.items) }) new × KeepsNumbers old new
items_in f [] q old new reads distinct fresh chain = (
  subst (λ xs. Reads f (record q { items = xs }) new) (sym (arranged_itself item_key q.items
      (items_in_order f q old reads))) (subst (Reads f q) (sym chain) reads),
  subst (KeepsNumbers old) (sym chain) (kept_same old),
)
items_in f (i ∷ items) q old new reads distinct fresh chain =
    let one = chain.1 f q reads fresh.0 in
    let others = items_in f items (item_added i q) chain.0 new one.0 (rest i items q distinct)
    (new_still i items q distinct fresh.1) chain.2 in (
      subst (λ xs. Reads f (record q { items = xs }) new) (item_later i items q distinct (items_in_order f q old reads)
          fresh.0) others.0,
      kept_then old chain.0 new one.1 others.1,
    )

pub links_in : (f : Frame) (links : List Relation) (q : Package) (old new : Database) → Reads f q old
    → IsDistinct bytes_eq (map link_key links) → AllByRecursion
    (λ l. has link_key (link_key l) q.links ≡ false) links
    → AllByRecursion (HasEnds q) links
    → EachChained PutsLink links old new → Reads f (record q { links = arranged link_key (links ++ q.links) }) new
    × KeepsNumbers old new
links_in f [] q old new reads distinct fresh ends chain = (
  subst (λ xs. Reads f (record q { links = xs }) new) (sym (arranged_itself link_key q.links
      (links_in_order f q old reads))) (subst (Reads f q) (sym chain) reads),
  subst (KeepsNumbers old) (sym chain) (kept_same old),
)
links_in f (l ∷ links) q old new reads distinct fresh ends chain =
    let others : AllByRecursion (λ m. bytes_eq (link_key l) (link_key m) ≡ false) links =
    All-of_map (λ k. bytes_eq (link_key l) k ≡ false) link_key links
    (IsDistinct-head bytes_eq (link_key l) (map link_key links) distinct) in
    let absent : AllByRecursion (λ m. has link_key (link_key m) (link_added l q).links ≡ false) links =
    All-both (λ m. has link_key (link_key m) q.links ≡ false) (λ m. bytes_eq (link_key l) (link_key m) ≡ false)
    (λ m. has link_key (link_key m) (link_added l q).links ≡ false)
    (λ m none other. still_absent q l m none other) links fresh.1 others in
    let one = chain.1 f q reads (record { new = fresh.0; ends = ends.0 }) in
    let rest = links_in f links (link_added l q) chain.0 new one.0
    (IsDistinct-tail bytes_eq (link_key l) (map link_key links) distinct) absent ends.1 chain.2 in (
      subst (λ xs. Reads f (record q { links = xs }) new)
          (arranged_later link_key links q.links l (links_in_order f q old reads)
          (none_pass (λ y. bytes_eq (link_key y) (link_key l)) q.links fresh.0)
          (All-weaker (λ m. bytes_eq (link_key l) (link_key m) ≡ false)
          (λ m. bytes_eq (link_key m) (link_key l) ≡ false) (λ m h. bytes_eq_swap (link_key m) (link_key l) ∙ h)
          links others)) rest.0,
      kept_then old chain.0 new one.1 rest.1,
    )

-- a cut comes in
pub cut_in : (c : Cut) (old new : Database) → PutsEach c old new → Takes c old new
cut_in c old new chain f q reads new_cut =
    let with_items = items_in f c.items q old chain.0 reads new_cut.distinct_items new_cut.items chain.1 in
    let with_links = links_in f c.links (record q { items = arranged item_key (c.items ++ q.items) }) chain.0 new
    with_items.0 new_cut.distinct_links new_cut.links new_cut.ends chain.2 in
    (with_links.0, kept_then old chain.0 new with_items.1 with_links.1)

-- ---- no room

above : (a b : ℕ) → a < b → nat_lt a b ≡ true
above a b h = lt-ltb a b h

-- a kind of which there are more than may be
module _ (q : Package) (items : List Item) (links : List Relation) where
  abbrev after : Package
  after = record q { items = items; links = links }

  over : (content : Content) → greatest_items < count_by (λ i. kind_is (kind_of content) (kind_of i.content)) items
      → is_overfull after ≡ true
  over (Tile zoom column row bytes) more = ap (λ b. b || nat_lt greatest_items (count_by is_medium items) || nat_lt
      greatest_items (count_by is_row items) || nat_lt greatest_links (length links)) (above _ _ more)
  over (Media content_type bytes) more =
      ap (λ b. nat_lt greatest_items (count_by is_tile items) || b || nat_lt greatest_items (count_by is_row items) ||
      nat_lt greatest_links (length links)) (above _ _ more)
      ∙ ap (λ b. b || nat_lt greatest_items (count_by is_row items) || nat_lt greatest_links (length links))
      (or-true (nat_lt greatest_items (count_by is_tile items)))
  over (Row x y code label) more =
      ap (λ b. nat_lt greatest_items (count_by is_tile items) || nat_lt greatest_items (count_by is_medium items) || b
      || nat_lt greatest_links (length links)) (above _ _ more)
      ∙ ap (λ b. b || nat_lt greatest_links (length links)) (or-true
      (nat_lt greatest_items (count_by is_tile items) || nat_lt greatest_items (count_by is_medium items)))

own_kind : (content : Content) → kind_is (kind_of content) (kind_of content) ≡ true
own_kind (Tile zoom column row bytes) = refl
own_kind (Media content_type bytes) = refl
own_kind (Row x y code label) = refl

-- one more of a kind than may be
one_more : (i : Item) (items : List Item) (q : Package) → greatest_items ≤ count_by
    (λ j. kind_is (kind_of i.content) (kind_of j.content)) q.items
    → greatest_items < count_by (λ j. kind_is (kind_of i.content) (kind_of j.content))
    (arranged item_key ((i ∷ items) ++ q.items))
one_more i items q full =
    let p : Item → Bool = λ j. kind_is (kind_of i.content) (kind_of j.content) in
    let all : count_by p (arranged item_key ((i ∷ items) ++ q.items)) ≡ count_by p ((i ∷ items) ++ q.items) =
    sum_by-arranged item_key (λ j. cond (p j) 1 0) ((i ∷ items) ++ q.items) in
    let here : count_by p (i ∷ (items ++ q.items)) ≡ 1 + count_by p (items ++ q.items) =
    count-cons p i (items ++ q.items) true (own_kind i.content) in
    let both : count_by p (items ++ q.items) ≡ count_by p items + count_by p q.items =
    sum_by-append (λ j. cond (p j) 1 0) items q.items in
    omega (arith, full, all, here, both)

pub too_much_in : (items : List Item) (links : List Relation) (q : Package) (f : Frame) (old : Database)
    → Reads f q old → IsDistinct bytes_eq (identities items)
    → AllByRecursion (λ i. has_item q i.identity ≡ false) items → Overfills items old
    → is_overfull (record q { items = arranged item_key (items ++ q.items); links = links }) ≡ true
too_much_in [] links q f old reads distinct fresh over_it = absurd over_it
too_much_in (i ∷ items) links q f old reads distinct fresh over_it = elim over_it [
  | inl full ↦ over q (arranged item_key ((i ∷ items) ++ q.items)) links i.content
      (one_more i items q (full f q reads))
  | inr next ↦
      subst (λ xs. is_overfull (record q { items = xs; links = links }) ≡ true)
      (item_later i items q distinct (items_in_order f q old reads) fresh.0)
      (too_much_in items links (item_added i q) f next.0 (next.1 f q reads fresh.0).0 (rest i items q distinct)
      (new_still i items q distinct fresh.1) next.2)
]

pub too_much : (c : Cut) (old : Database) → Overfills c.items old → IsTooMuch c old
too_much c old over_it f q reads new_cut = too_much_in c.items (arranged link_key (c.links ++ q.links)) q f old reads
    new_cut.distinct_items new_cut.items over_it
