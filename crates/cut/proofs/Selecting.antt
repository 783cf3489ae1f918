-- What was gathered and sorted is the cut, and what was found in its way is the refusal.
use Rattle.std.specs.Prelude.{◌≡◌, ℕ, Bool, true, false, cond, ◌&&◌, ◌||◌, List, [], ◌∷◌, map}
use Rattle.std.specs.Prelude.{filter, length, nat_le}
use Rattle.std.specs.Prelude.{refl, bytes_eq, Option, None, Some}
use Rattle.std.proofs.Common.{sym, ap, ap₂, subst, ◌∙◌, arith}
use Rattle.std.proofs.lemmas.Bool.{true≢false, and_parts}
use Rattle.std.proofs.lemmas.Map.Keys.{IsDistinct-head, IsDistinct-tail, IsDistinct-cons}
use Rattle.std.proofs.lemmas.Slice.Eq.{bytes_eq-Decides}
use Rattle.std.specs.List.{list_any, list_all, IsDistinct}
use Rattle.sheet_types.specs.Ordered.{is_among, IsArranged, arranged, sublists}
use Rattle.sheet_types.specs.Cut.{cut, cut_out, identities, touches, start, lies_inside, holds_all, is_closed}
use Rattle.sheet_types.specs.Matrix.{first_row}
use Rattle.sheet_types.specs.Refuse.{carrying}
use Rattle.sheet_types.specs.World.{Package, link_key}
use Rattle.sheet_types.specs.declared.command.Item.{Item}
use Rattle.sheet_types.specs.declared.command.Mode.{Mode}
use Rattle.sheet_types.specs.declared.command.Mode.TheVariants.{Strict, Follow}
use Rattle.sheet_types.specs.declared.frame.Frame.{Frame}
use Rattle.sheet_types.specs.declared.frame.Rect.{Rect}
use Rattle.sheet_types.specs.declared.refusal.Refusal.TheVariants.{NothingToLend, CutLink}
use Rattle.sheet_types.proofs.Basics.{bytes_eq_itself, bytes_eq_swap}
use Rattle.sheet_types.proofs.Every.{All-weaker, All-map, All-of_map, All-filter}
use Rattle.sheet_types.proofs.Order.{All-arranged, put_arranged, list_any-arranged, filter_arranged}
use Rattle.sheet_types.proofs.Same.{In, any_in, any_at, same_list}
use Rattle.cut.specs.Gathering.{AreSame, brought_along, Gathers, HasStart, Sorts, has_member, leads_to_media, IsLeast}
use Rattle.cut.specs.Gathering.{IsTorn, torn_ends}
use Rattle.cut.specs.Taken.{IsInOrder, Selects, refused, torn}
use Rattle.cut.specs.declared.gathering.Gathered.{Gathered}
use Rattle.identity_register.specs.declared.selection.Selection.{Selection}
use Rattle.cut.proofs.Alike.{one_list}
use Rattle.cut.proofs.Following.{all_among, among_all}
use Rattle.cut.proofs.Testing.{both_ways, filter_alike, any_same, any_links, any_filtered, any_mapped, among_those}
use Rattle.cut.proofs.Torn.{any_item, brought_items, torn_is}

-- ---- lists of identities

-- what is among a list is one of it
in_from : (k : List ℕ) (xs : List (List ℕ)) → is_among xs k ≡ true → In k xs
in_from k xs among = let y = any_at (λ x. bytes_eq x k) xs among in subst (λ z. In z xs)
    ((bytes_eq-Decides y.0 k).0 y.2) y.1

among_from : (k : List ℕ) (xs : List (List ℕ)) → In k xs → is_among xs k ≡ true
among_from k xs i = any_in (λ x. bytes_eq x k) k xs i (bytes_eq_itself k)

-- sorted identities are a set
pub one_set : (xs ys : List (List ℕ)) → IsArranged (λ k. k) xs → IsArranged (λ k. k) ys → AreSame xs ys
    → xs ≡ ys
one_set xs ys a b same = same_list (λ k. k) xs ys a b (λ k i. in_from k ys (sym (same k) ∙ among_from k xs i))
    (λ k i. in_from k xs (same k ∙ among_from k ys i))

-- what a test takes is distinct still
distinct_filter : {X : Type 0} (f : X → List ℕ) (t : X → Bool) (xs : List X) → IsDistinct bytes_eq (map f xs)
    → IsDistinct bytes_eq (map f (filter t xs))
distinct_filter f t [] h = h
distinct_filter f t (x ∷ xs) h = elim (t x) as (λ v. IsDistinct bytes_eq
    (map f (cond v (x ∷ filter t xs) (filter t xs)))) [
      | true ↦ IsDistinct-cons bytes_eq (f x) (map f (filter t xs))
          (All-map (λ z. bytes_eq (f x) z ≡ false) f (filter t xs)
          (All-filter (λ y. bytes_eq (f x) (f y) ≡ false) t xs
          (All-of_map (λ z. bytes_eq (f x) z ≡ false) f xs (IsDistinct-head bytes_eq (f x) (map f xs) h))))
          (distinct_filter f t xs (IsDistinct-tail bytes_eq (f x) (map f xs) h))
      | false ↦ distinct_filter f t xs (IsDistinct-tail bytes_eq (f x) (map f xs) h)
    ]

-- distinct identities can be put in order
arranged_distinct : (xs : List (List ℕ)) → IsDistinct bytes_eq xs → IsArranged (λ k. k) (arranged (λ k. k) xs)
arranged_distinct [] h = tt
arranged_distinct (x ∷ xs) h = put_arranged (λ k. k) x (arranged (λ k. k) xs)
    (arranged_distinct xs (IsDistinct-tail bytes_eq x xs h))
    (All-arranged (λ k. k) (λ y. bytes_eq y x ≡ false) xs (All-weaker (λ y. bytes_eq x y ≡ false)
    (λ y. bytes_eq y x ≡ false) (λ y d. bytes_eq_swap y x ∙ d) xs (IsDistinct-head bytes_eq x xs h)))

-- ---- the cut

and_swap : (a b : Bool) → (a && b) ≡ (b && a)
and_swap true true = refl
and_swap true false = refl
and_swap false true = refl
and_swap false false = refl

kept : (s i : Bool) → (s ≡ true → i ≡ true) → (s && i) ≡ s
kept true i h = h refl
kept false i h = refl

-- what was gathered of a set of items, sorted, is what is cut out
pub selects_set : (p : Package) (set : List ℕ → Bool) (g : Gathered) (s : Selection) → IsArranged link_key p.links
    → IsDistinct bytes_eq (identities p.items) → ((id : List ℕ) → set id ≡ true
    → is_among (identities p.items) id ≡ true)
    → Gathers p set g → Sorts g s → Selects (cut_out p set (touches set)) s
selects_set p set g s in_order apart of_items gathers sorts = record {
  items = one_set s.identities.items (arranged (λ k. k) taken) sorts.items_order
      (arranged_distinct taken (distinct_filter (λ i. i.identity) (λ i. set i.identity) p.items apart))
      (λ id. sorts.items_same id ∙ gathers.members id ∙ sym (kept (set id) (is_among (identities p.items) id)
      (of_items id)) ∙ sym (any_item set p id)
      ∙ sym (among_those (λ i. i.identity) (λ i. set i.identity) p.items id)
      ∙ sym (list_any-arranged (λ k. k) (λ k. bytes_eq k id) taken));
  links = one_list s.links.items (filter (touches set) p.links) sorts.links_order
      (filter_arranged link_key (touches set) p.links in_order)
      (λ t. sorts.links_same t ∙ ap (list_any t) gathers.links ∙ any_links t p.links g.items.order.items
      ∙ any_same (λ l. t l && touches (is_among g.items.order.items) l) (λ l. touches set l && t l) p.links
      (λ l. ap (λ m. t l && touches m l) (λ n. λ k. gathers.members k n) ∙ and_swap (t l) (touches set l))
      ∙ sym (any_filtered t (touches set) p.links));
}
  where
    taken : List (List ℕ)
    taken = identities (filter (λ i. set i.identity) p.items)

-- the same start brings the same along
pub brought_same : (p : Package) (mode : Mode) (xs ys : List (List ℕ)) → AreSame xs ys → (id : List ℕ)
    → brought_along p mode xs id ≡ brought_along p mode ys id
brought_same p Strict xs ys same id = ap {A = List ℕ → Bool}
    (λ t. t id || is_among (map (λ l. l.other) (filter (λ l. leads_to_media l && t l.base) p.links)) id)
    (λ n. λ k. same k n)
brought_same p Follow xs ys same id = ap (λ sets. list_all (λ s. is_among s id) sets)
    (filter_alike (λ s. holds_all xs s && is_closed p s) (λ s. holds_all ys s && is_closed p s)
    (sublists (identities p.items))
    (λ s. ap (λ b. b && is_closed p s) (both_ways (holds_all xs s) (holds_all ys s)
    (λ h. all_among ys (is_among s) (λ k i. among_all xs (is_among s) h k (same k ∙ i)))
    (λ h. all_among xs (is_among s) (λ k i. among_all ys (is_among s) h k (sym (same k) ∙ i))))))

-- the start is of items
pub start_items : (f : Frame) (r : Rect) (p : Package) (ids : List (List ℕ))
    → AreSame ids (identities (start f r p))
    → IsInOrder f p → HasStart p ids
start_items f r p ids same order = record {
  ends = order.ends;
  items = all_among ids (is_among (identities p.items)) (λ k i. item k (sym (same k) ∙ i));
}
  where
    item : (k : List ℕ) → is_among (identities (start f r p)) k ≡ true
        → is_among (identities p.items) k ≡ true
    item k among =
        let i = any_at (λ i. lies_inside f r i.content && bytes_eq i.identity k) p.items
        (sym (among_those (λ i. i.identity) (λ i. lies_inside f r i.content) p.items k) ∙ among) in
        any_mapped (λ z. bytes_eq z k) (λ i. i.identity) p.items
        ∙ any_in (λ x. bytes_eq x.identity k) i.0 p.items i.1
        (and_parts (lies_inside f r i.0.content) (bytes_eq i.0.identity k) i.2).1

-- the cut of the model is what is cut out
cut_is : (f : Frame) (p : Package) (mode : Mode) (r : Rect) → cut f p mode r
    ≡ cut_out p (brought_along p mode (identities (start f r p)))
    (touches (brought_along p mode (identities (start f r p))))
cut_is f p Strict r = refl
cut_is f p Follow r = refl

pub selects : (f : Frame) (p : Package) (mode : Mode) (r : Rect) (ids : List (List ℕ)) (g : Gathered) (s : Selection)
    → IsInOrder f p → AreSame ids (identities (start f r p)) → Gathers p (brought_along p mode ids) g
    → Sorts g s
    → Selects (cut f p mode r) s
selects f p mode r ids g s order same gathers sorts =
    subst (λ c. Selects c s) (ap (λ set. cut_out p set (touches set))
    (λ n. λ k. brought_same p mode ids (identities (start f r p)) same k n) ∙ sym (cut_is f p mode r))
    (selects_set p (brought_along p mode ids) g s order.links order.identities
    (brought_items p mode ids (start_items f r p ids same order)) gathers sorts)

-- ---- refusals

nothing_there : (xs : List Item) → AreSame [] (identities xs) → xs ≡ []
nothing_there [] same = refl
nothing_there (x ∷ xs) same = absurd (true≢false (sym (ap (λ b. b || is_among (identities xs) x.identity)
    (bytes_eq_itself x.identity)) ∙ sym (same x.identity)))

-- nothing lies inside
pub nothing_to_lend : (f : Frame) (p : Package) (mode : Mode) (r : Rect) (ids : List (List ℕ))
    → AreSame ids (identities (start f r p)) → ids ≡ [] → refused f p mode r ≡ Some NothingToLend
nothing_to_lend f p mode r ids same none = ap (λ xs. first_row
    ((nat_le (length xs) 0, NothingToLend) ∷ carrying CutLink (torn f p mode r) ∷ []))
    (nothing_there (start f r p) (subst (λ l. AreSame l (identities (start f r p))) none same))

some_there : (xs : List Item) (ids : List (List ℕ)) → AreSame ids (identities xs) → (ids ≡ [] → ⊥)
    → nat_le (length xs) 0 ≡ false
some_there [] [] same some = absurd (some refl)
some_there [] (k ∷ ids) same some = absurd (true≢false (sym (ap (λ b. b || is_among ids k) (bytes_eq_itself k))
    ∙ same k))
some_there (x ∷ xs) ids same some = grind arith

-- something does
pub link_cut : (f : Frame) (p : Package) (mode : Mode) (r : Rect) (ids : List (List ℕ)) (id : List ℕ)
    → AreSame ids (identities (start f r p)) → (ids ≡ [] → ⊥) → torn f p mode r ≡ Some id
    → refused f p mode r ≡ Some (CutLink id)
link_cut f p mode r ids id same some tears = ap₂ (λ b o. first_row
    ((b, NothingToLend) ∷ carrying CutLink o ∷ []))
    (some_there (start f r p) ids same some) tears

pub nothing_refused : (f : Frame) (p : Package) (mode : Mode) (r : Rect) (ids : List (List ℕ))
    → AreSame ids (identities (start f r p)) → (ids ≡ [] → ⊥) → torn f p mode r ≡ None
    → refused f p mode r ≡ None
nothing_refused f p mode r ids same some whole = ap₂ (λ b o. first_row
    ((b, NothingToLend) ∷ carrying CutLink o ∷ []))
    (some_there (start f r p) ids same some) whole

-- what was found torn is what the model tears
pub torn_found : (f : Frame) (p : Package) (mode : Mode) (r : Rect) (ids : List (List ℕ)) (g : Gathered)
    (o : Option (List ℕ)) → IsInOrder f p → AreSame ids (identities (start f r p))
    → Gathers p (brought_along p mode ids) g → IsTorn g mode o → torn f p mode r ≡ o
torn_found f p Strict r ids g o order same gathers it =
    sym (torn_is p (identities (start f r p)) g.items.order.items o order.ends
    (λ id. gathers.members id ∙ brought_same p Strict ids (identities (start f r p)) same id)
    (subst (λ l. IsLeast (torn_ends (has_member g.items) l) o) gathers.links it))
torn_found f p Follow r ids g o order same gathers it = sym it
