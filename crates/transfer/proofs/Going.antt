-- Items and links that go out of a package one by one, and all at once.
use Rattle.std.specs.Prelude.{◌≡◌, ℕ, Bool, true, false, not, cond, ◌||◌, List, [], ◌∷◌, map}
use Rattle.std.specs.Prelude.{filter, refl, bytes_eq}
use Rattle.std.proofs.Common.{sym, ap, subst, ◌∙◌}
use Rattle.std.proofs.lemmas.Bool.{true≢false, false_from_ne_true}
use Rattle.std.proofs.lemmas.Map.Keys.{IsDistinct-head, IsDistinct-tail}
use Rattle.std.proofs.lemmas.Slice.Eq.{bytes_eq-Decides}
use Rattle.std.specs.List.{AllByRecursion, IsDistinct, list_any}
use Rattle.sqlite.specs.Effect.{Database}
use Rattle.store_sql.specs.Writing.{Chained, EachChained}
use Rattle.sheet_types.specs.Ordered.{without, has, is_among}
use Rattle.sheet_types.specs.Cut.{has_end, touches}
use Rattle.sheet_types.specs.World.{Package, link_key, has_item}
use Rattle.sheet_types.specs.declared.command.Item.{Item}
use Rattle.sheet_types.specs.declared.command.Relation.{Relation}
use Rattle.sheet_types.specs.declared.frame.Frame.{Frame}
use Rattle.sheet_types.proofs.Basics.{bytes_eq_itself, bytes_eq_swap, or-true}
use Rattle.sheet_types.proofs.Every.{All-weaker, All-both, All-of_map, All-taken, none_any}
use Rattle.sheet_types.proofs.Found.{any_filter}
use Rattle.sheet_types.proofs.Same.{In, In-all, any_in}
use Rattle.sheet_types.proofs.Without.{is_one}
use Rattle.identity_register.specs.Changes.{item_deleted, link_removed}
use Rattle.identity_register.specs.LocalNumbers.{KeepsNumbers, Shrinks}
use Rattle.identity_register.specs.Reads.{Reads}
use Rattle.identity_register.proofs.KeptNumbers.{kept_same, kept_then}
use Rattle.transfer.specs.Parcels.{Names, IsSelection, without_names}
use Rattle.transfer.specs.Removals.{DropsItem, DropsLink}

-- ---- lists without some keys

module _ {X : Type 0} (key : X → List ℕ) where
  pub without_nothing : (xs : List X) → without key [] xs ≡ xs
  without_nothing [] = refl
  without_nothing (x ∷ xs) = ap (λ l. x ∷ l) (without_nothing xs)

  -- without one key, and then without others
  pub without_both : (k : List ℕ) (ks : List (List ℕ)) (xs : List X)
      → without key ks (without key (k ∷ []) xs) ≡ without key (k ∷ ks) xs
  without_both k ks [] = refl
  without_both k ks (x ∷ xs) = one (without_both k ks xs) (bytes_eq k (key x)) (is_among ks (key x)) refl refl
    where
      one : without key ks (without key (k ∷ []) xs) ≡ without key (k ∷ ks) xs → (v w : Bool)
          → bytes_eq k (key x) ≡ v
          → is_among ks (key x) ≡ w → without key ks (without key (k ∷ []) (x ∷ xs))
          ≡ without key (k ∷ ks) (x ∷ xs)
      one rest true w e f = rw e rest
      one rest false true e f = rw (e, f) rest
      one rest false false e f = rw (e, f) (ap (λ l. x ∷ l) rest)

  -- another key is still there
  pub still_there : (k other : List ℕ) (xs : List X) → bytes_eq k other ≡ false → has key other xs ≡ true
      → has key other (without key (k ∷ []) xs) ≡ true
  still_there k other xs apart there = any_filter (λ x. bytes_eq (key x) other)
      (λ x. not (is_among (k ∷ []) (key x)))
      xs
      (λ x same. ap not (is_one key k x ∙ ap (λ y. bytes_eq y k) ((bytes_eq-Decides (key x) other).0 same)
      ∙ bytes_eq_swap other k ∙ apart)) there

-- ---- links, and items

pub links_out : (f : Frame) (links : List Relation) (p : Package) (old new : Database) → Reads f p old
    → IsDistinct bytes_eq (map link_key links) → AllByRecursion (λ l. has link_key (link_key l) p.links ≡ true)
    links
    → EachChained DropsLink links old new
    → Reads f (record p { links = without link_key (map link_key links) p.links }) new × KeepsNumbers new old
links_out f [] p old new reads distinct there chain = (
  subst (λ xs. Reads f (record p { links = xs }) new) (sym (without_nothing link_key p.links))
      (subst (Reads f p) (sym chain) reads),
  subst (λ (d : Database). KeepsNumbers d old) (sym chain)
      (kept_same old),
)
links_out f (l ∷ links) p old new reads distinct there chain =
    let others : AllByRecursion (λ m. bytes_eq (link_key l) (link_key m) ≡ false) links =
    All-of_map (λ k. bytes_eq (link_key l) k ≡ false) link_key links
    (IsDistinct-head bytes_eq (link_key l) (map link_key links) distinct) in
    let still : AllByRecursion (λ m. has link_key (link_key m) (link_removed l p).links ≡ true) links =
    All-both (λ m. has link_key (link_key m) p.links ≡ true) (λ m. bytes_eq (link_key l) (link_key m) ≡ false)
    (λ m. has link_key (link_key m) (link_removed l p).links ≡ true)
    (λ m is apart. still_there link_key (link_key l) (link_key m) p.links apart is) links there.1 others in
    let one = chain.1 f p reads there.0 in
    let rest = links_out f links (link_removed l p) chain.0 new one.0
    (IsDistinct-tail bytes_eq (link_key l) (map link_key links) distinct) still chain.2 in (
      subst (λ xs. Reads f (record p { links = xs }) new) (without_both link_key (link_key l) (map link_key links)
          p.links) rest.0,
      kept_then new chain.0 old rest.1 one.1,
    )

pub items_out : (f : Frame) (ids : List (List ℕ)) (p : Package) (old new : Database) → Reads f p old
    → IsDistinct bytes_eq ids → AllByRecursion (λ id. has_item p id ≡ true) ids
    → AllByRecursion (λ id. list_any (has_end id) p.links ≡ false) ids
    → EachChained DropsItem ids old new → Reads f (record p { items = without (λ i. i.identity) ids p.items }) new
    × KeepsNumbers new old
items_out f [] p old new reads distinct there loose chain = (
  subst (λ xs. Reads f (record p { items = xs }) new) (sym (without_nothing (λ i. i.identity) p.items))
      (subst (Reads f p) (sym chain) reads),
  subst (λ (d : Database). KeepsNumbers d old) (sym chain)
      (kept_same old),
)
items_out f (id ∷ ids) p old new reads distinct there loose chain =
    let still : AllByRecursion (λ k. has_item (item_deleted id p) k ≡ true) ids =
    All-both (λ k. has_item p k ≡ true) (λ k. bytes_eq id k ≡ false)
    (λ k. has_item (item_deleted id p) k ≡ true)
    (λ k is apart. still_there (λ i. i.identity) id k p.items apart is) ids there.1
    (IsDistinct-head bytes_eq id ids distinct) in
    let one = chain.1 f p reads (there.0, loose.0) in
    let rest = items_out f ids (item_deleted id p) chain.0 new one.0 (IsDistinct-tail bytes_eq id ids distinct) still
    loose.1 chain.2 in (
      subst (λ xs. Reads f (record p { items = xs }) new) (without_both (λ i. i.identity) id ids p.items) rest.0,
      kept_then new chain.0 old rest.1 one.1,
    )

-- ---- a selection

or_left : (a b : Bool) → a ≡ true → (a || b) ≡ true
or_left a b h = ap (λ v. v || b) h

or_right : (a b : Bool) → b ≡ true → (a || b) ≡ true
or_right a b h = ap (λ v. a || v) h ∙ or-true a

-- an item of a set that is an end of a link
end_touches : (id : List ℕ) (ids : List (List ℕ)) (l : Relation) → In id ids → has_end id l ≡ true
    → touches (is_among ids) l ≡ true
end_touches id ids l i ends = elim (bytes_eq l.base id) as (λ v. bytes_eq l.base id ≡ v
    → (v || bytes_eq l.other id) ≡ true → touches (is_among ids) l ≡ true) [
      | true ↦ λ here _. or_left (is_among ids l.base) (is_among ids l.other) (among l.base here)
      | false ↦ λ _ there. or_right (is_among ids l.base) (is_among ids l.other) (among l.other there)
    ] refl ends
  where
    among : (end : List ℕ) → bytes_eq end id ≡ true → is_among ids end ≡ true
    among end same = any_in (λ x. bytes_eq x end) id ids i (bytes_eq_swap id end ∙ same)

-- without the links of a selection no link has an end in it
loose : (n : Names) (p : Package) → IsSelection n p → AllByRecursion
    (λ id. list_any (has_end id) (without link_key (map link_key n.links) p.links) ≡ false) n.identities
loose n p it = All-weaker (λ id. In id n.identities) (λ id. list_any (has_end id)
    (without link_key (map link_key n.links) p.links) ≡ false)
    (λ id i. none_any (has_end id) (without link_key (map link_key n.links) p.links)
    (All-taken (λ l. has_end id l ≡ false) (λ l. not (is_among (map link_key n.links) (link_key l))) p.links
    (All-weaker (λ l. touches (is_among n.identities) l ≡ true
    → is_among (map link_key n.links) (link_key l) ≡ true)
    (λ l. not (is_among (map link_key n.links) (link_key l)) ≡ true → has_end id l ≡ false)
    (λ l whole out. false_from_ne_true (has_end id l) (λ ends. true≢false
    (sym out ∙ ap not (whole (end_touches id n.identities l i ends))))) p.links it.whole)))
    n.identities (In-all n.identities)

pub selection_out : (n : Names) (old new : Database) → Chained (EachChained DropsLink n.links)
    (EachChained DropsItem n.identities) old new → Shrinks (IsSelection n) (without_names n) old new
selection_out n old new chain f p reads it =
    let unlinked = links_out f n.links p old chain.0 reads it.distinct_links it.links chain.1 in
    let gone = items_out f n.identities (record p { links = without link_key (map link_key n.links) p.links }) chain.0
    new unlinked.0 it.distinct_items it.items (loose n p it) chain.2 in
    (gone.0, kept_then new chain.0 old gone.1 unlinked.1)
