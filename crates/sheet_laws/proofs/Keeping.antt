-- What it takes to keep the rules of a register, whatever the command.
use Rattle.std.specs.Prelude.{◌≡◌, ⊤, ◌==◌, ℕ, ℤ, ◌+◌, ◌≤◌, ◌<◌, Bool, true, false}
use Rattle.std.specs.Prelude.{cond, not, ◌&&◌, ◌||◌, List, [], ◌∷◌, ◌++◌, map, filter, find, refl}
use Rattle.std.specs.Prelude.{nat_lt, bytes_eq, Option, Some, None, unwrap_or, is_some, sum_by, count_by, MatchOption}
use Rattle.std.specs.Prelude.{int_le, int_lt, pos, negsuc, unsigned_abs, slice_index, is_none, ◌+ℤ◌, ◌*ℤ◌}
use Rattle.std.specs.Prelude.{◌-ℤ◌}
use Rattle.sheet_types.specs.Refuse.{is_at, takes_place, place_of, bad_place, greatest_depth}
use Rattle.sheet_types.specs.World.{is_tile, kind_is, item_key, link_key, kind_number, base_kind, other_kind, World}
use Rattle.sheet_types.specs.World.{Package, package_key, receipt_key, receipts_of, holdings, no_package, is_live}
use Rattle.sheet_types.specs.Balance.{IsLoan}
use Rattle.sheet_types.specs.Lines.{IsUuid}
use Rattle.sheet_types.specs.Register.{HasEnds, IsFit, HasParent, IsKeptPackage}
use Rattle.sheet_types.specs.declared.command.Relation.{Relation}
use Rattle.sheet_types.specs.declared.receipt.MovedKind.{MovedKind}
use Rattle.sheet_types.specs.declared.receipt.MovedKind.TheVariants.{TileItem}
use Rattle.std.proofs.Common.{drop, sym, ap, subst, ◌∙◌, arith, rules}
use Rattle.sheet_types.proofs.Every.{All-filter, none_pass, All-each, All-weaker, All-snoc, All-both, All-taken}
use Rattle.sheet_types.proofs.Order.{filter_arranged, before_numbers, put_arranged, list_any-put}
use Rattle.sheet_types.specs.Texts.{kind_of}
use Rattle.sheet_types.specs.declared.command.Command.TheVariants.{Add}
use Rattle.sheet_types.specs.declared.frame.FrameFault.{FrameFault}
use Rattle.sheet_laws.proofs.Accepting.{rows_fail}
use Rattle.sheet_types.proofs.Found.{All-found, found, any_filter}
use Rattle.sheet_types.proofs.Sums.{sum_by-same, sum_by-filter, filter_less}
use Rattle.std.proofs.lemmas.List.Elements.{filter-append}
use Rattle.std.proofs.lemmas.List.Folds.{list_any-append}
use Rattle.std.proofs.lemmas.List.Sums.{sum_by-cons}
use Rattle.std.proofs.lemmas.Bool.{true≢false, false≢true, or_parts, and_parts, and_from, lt-ltb}
use Rattle.std.proofs.lemmas.Slice.Eq.{bytes_eq-Decides}
use Rattle.std.specs.List.{list_any, AllByRecursion, IsDistinct}
use Rattle.sheet_types.specs.Ordered.{has, put, without, is_among, IsArranged}
use Rattle.sheet_types.specs.Custody.{ends_at, is_merge, is_split, after, is_open_among}
use Rattle.sheet_types.specs.Matrix.{has_place, has_level, width_at, height_at, level_of, in_frame, is_within}
use Rattle.sheet_types.specs.Matrix.{is_good_frame, frame_fault, is_good_bound, divides, last_level, ten_to_12}
use Rattle.sheet_types.specs.declared.frame.FrameFault.TheVariants.{BadSrs, BadBounds, BadTile, BadZoom, BadMatrix}
use Rattle.sheet_types.specs.declared.frame.FrameFault.TheVariants.{Uneven}
use Rattle.sheet_types.specs.declared.command.Content.{Content}
use Rattle.sheet_types.specs.declared.command.Content.TheVariants.{Tile, Media, Row}
use Rattle.sheet_types.specs.declared.command.Item.{Item}
use Rattle.sheet_types.specs.declared.frame.Frame.{Frame}
use Rattle.sheet_types.specs.declared.receipt.Receipt.{Receipt}
use Rattle.sheet_types.proofs.Basics.{bytes_eq_itself, not_false, before-differs, bytes_eq_swap, not_true, or-true}
use Rattle.sheet_types.proofs.Without.{is_one}
use Rattle.sheet_laws.proofs.Ledger.{none_after}
use Rattle.sheet_laws.proofs.Packages.{by_place, at_uuid, each_found}
use Rattle.sheet_types.proofs.Distinct.{distinct_counts, counts_distinct}

-- a package that has each item of another has the ends of its links
pub ends_kept : (x y : Package) → ((n : List ℕ) → has item_key n x.items ≡ true
    → has item_key n y.items ≡ true) → (l : Relation) → HasEnds x l → HasEnds y l
ends_kept x y more l h = (
  more (kind_number (base_kind l.mapping) ∷ l.base) h.0,
  more
      (kind_number (other_kind l.mapping) ∷ l.other) h.1,
)

-- ---- an item is fit in any package of the frame

-- one item
pub fit_moves : (w v : World) → v.frame ≡ w.frame → (p q : List ℕ) (identity : List ℕ) (content : Content)
    (x y : Package) → IsFit w x (record { identity = identity; content = content })
    → IsFit v y (record { identity = identity; content = content })
fit_moves w v e p q identity (Tile zoom column row bytes) x y h =
    (h.0, h.1, ap (λ f. not (has_place f zoom column row)) e ∙ h.2, h.3)
fit_moves w v e p q identity (Media content_type bytes) x y h = h
fit_moves w v e p q identity (Row a b code label) x y h = (h.0, h.1, h.2, ap (λ f. not (in_frame f a b)) e ∙ h.3)

-- all items
pub fit_all : (w v : World) → v.frame ≡ w.frame → (x y : Package) (items : List Item)
    → AllByRecursion (IsFit w x) items → AllByRecursion (IsFit v y) items
fit_all w v e x y items h = All-weaker (IsFit w x) (IsFit v y) (λ i. fit_moves w v e [] [] i.identity i.content x y)
    items h

-- ---- distinct lists by counts

-- ---- packages, live ones alone

-- a fact of what stands under each live UUID
pub all_live_at : (w : World) (P : Package → Type 0) → IsArranged package_key w.packages
    → ((p : List ℕ) → is_live w p ≡ true → P (holdings w p)) → AllByRecursion P w.packages
all_live_at w P distinct h =
    All-both (λ x. find (at_uuid x.uuid) w.packages ≡ Some x) (λ x. is_live w x.uuid ≡ true) P
    (λ x is live. subst P (ap (λ o. unwrap_or o no_package) is) (h x.uuid live)) w.packages
    (each_found w.packages distinct) (each_live w.packages)
  where
    each_live : (ps : List Package) → AllByRecursion (λ x. list_any (at_uuid x.uuid) ps ≡ true) ps
    each_live [] = tt
    each_live (x ∷ ps) = (
      ap (λ b. b || list_any (at_uuid x.uuid) ps) (bytes_eq_itself x.uuid),
      All-weaker (λ y. list_any (at_uuid y.uuid) ps ≡ true) (λ y. list_any (at_uuid y.uuid) (x ∷ ps) ≡ true)
          (λ y e. ap (λ b. bytes_eq x.uuid y.uuid || b) e ∙ or-true (bytes_eq x.uuid y.uuid)) ps (each_live ps),
    )

-- a change of a package leaves who is live
pub live_changed : (f : Package → Package) (p q : List ℕ) (ps : List Package)
    → ((x : Package) → (f x).uuid ≡ x.uuid) → list_any (at_uuid q)
    (map (λ x. cond (bytes_eq x.uuid p) (f x) x) ps) ≡ list_any (at_uuid q) ps
live_changed f p q [] uuids = refl
live_changed f p q (x ∷ ps) uuids =
    let u : (cond (bytes_eq x.uuid p) (f x) x).uuid ≡ x.uuid =
    elim (bytes_eq x.uuid p) as (λ v. (cond v (f x) x).uuid ≡ x.uuid)
    [ true ↦ uuids x | false ↦ refl ] in
    ap (λ z. bytes_eq z q || list_any (at_uuid q) (map (λ y. cond (bytes_eq y.uuid p) (f y) y) ps)) u
    ∙ ap (λ b. bytes_eq x.uuid q || b) (live_changed f p q ps uuids)

-- the end of a package leaves all others live
pub live_closed : (c q : List ℕ) (ps : List Package) → bytes_eq q c ≡ false
    → list_any (at_uuid q) (without package_key (c ∷ []) ps) ≡ list_any (at_uuid q) ps
live_closed c q [] other = refl
live_closed c q (x ∷ ps) other =
    elim (is_among (c ∷ []) x.uuid) as (λ v. is_among (c ∷ []) x.uuid ≡ v
    → list_any (at_uuid q) (cond (not v) (x ∷ without package_key (c ∷ []) ps)
    (without package_key (c ∷ []) ps)) ≡ (bytes_eq x.uuid q || list_any (at_uuid q) ps)) [
      | true ↦ λ gone.
          let e : x.uuid ≡ c = (bytes_eq-Decides x.uuid c).0 (sym (is_one package_key c x) ∙ gone) in
          live_closed c q ps other ∙ sym (ap (λ b. b || list_any (at_uuid q) ps)
          (ap (λ z. bytes_eq z q) e ∙ bytes_eq_swap c q ∙ other))
      | false ↦ λ _. ap (λ b. bytes_eq x.uuid q || b) (live_closed c q ps other)
    ] refl

-- a sum that a change does not see
pub sum_by-changed : (f : Package → Package) (h : Package → ℕ) (p : List ℕ) (ps : List Package)
    → ((x : Package) → h (f x) ≡ h x) → sum_by h (map (λ x. cond (bytes_eq x.uuid p) (f x) x) ps)
    ≡ sum_by h ps
sum_by-changed f h p [] same = refl
sum_by-changed f h p (x ∷ ps) same =
    let here : h (cond (bytes_eq x.uuid p) (f x) x) ≡ h x = elim (bytes_eq x.uuid p) as
    (λ v. h (cond v (f x) x) ≡ h x) [ true ↦ same x | false ↦ refl ] in
    omega (
      arith,
      sum_by-cons h (cond (bytes_eq x.uuid p) (f x) x) (map (λ y. cond (bytes_eq y.uuid p) (f y) y) ps),
      sum_by-cons h x ps,
      here,
      sum_by-changed f h p ps same,
    )

-- what a world says of a package by its frame and its parent alone
pub package_moves : (w v : World) (x : Package) → v.frame ≡ w.frame → HasParent v x → IsKeptPackage w x
    → IsKeptPackage v x
package_moves w v x e up k = record {
  items = k.items;
  links = k.links;
  receipts = k.receipts;
  identities = k.identities;
  uuid = k.uuid;
  uuids = k.uuids;
  fit = fit_all w v e x x x.items k.fit;
  places = k.places;
  ends = k.ends;
  parent = up;
}

-- a loan's parent stays where it is
pub parent_moves : (w v : World) (parent : Option (List ℕ)) (depth loan : ℕ)
    → ((q : List ℕ) → ends_at parent q ≡ true → is_live w q ≡ true → (is_live v q ≡ true)
    × ((holdings v q).depth ≡ (holdings w q).depth))
    → MatchOption parent ((depth ≡ 0) × (loan ≡ 0)) (λ q. (is_live w q ≡ true)
    × (depth ≡ (holdings w q).depth + 1) × (depth ≤ greatest_depth))
    → MatchOption parent ((depth ≡ 0) × (loan ≡ 0)) (λ q. (is_live v q ≡ true)
    × (depth ≡ (holdings v q).depth + 1) × (depth ≤ greatest_depth))
parent_moves w v None depth loan stays h = h
parent_moves w v (Some q) depth loan stays h =
    let s : (is_live v q ≡ true) × ((holdings v q).depth ≡ (holdings w q).depth) =
    stays q (bytes_eq_itself q) h.0 in
    (s.0, h.1 ∙ ap (λ n. n + 1) (sym s.1), h.2)

-- a receipt past all others is put in order
pub receipts_kept : (r : Receipt) (rs : List Receipt) → IsArranged receipt_key rs
    → AllByRecursion (λ s. s.seq < r.seq) rs → IsArranged receipt_key (put receipt_key r rs)
receipts_kept r rs h below = put_arranged receipt_key r rs h
    (All-weaker (λ s. s.seq < r.seq) (λ s. bytes_eq (receipt_key s) (receipt_key r) ≡ false)
    (λ s lt. before-differs (receipt_key s) (receipt_key r) (before_numbers s.seq r.seq ∙ lt-ltb s.seq r.seq lt))
    rs below)

-- ---- open loans

-- a merge of this package
abbrev ends_loan : List ℕ → Receipt → Bool
ends_loan c m = is_merge m && ends_at m.source c

-- a loan that is open by more receipts was open before the last
pub open_before : (rs : List Receipt) (r s : Receipt) → is_open_among (rs ++ r ∷ []) s ≡ true
    → is_open_among rs s ≡ true
open_before rs r s h =
    let parts : ((is_split s && is_some s.target) ≡ true) × (not
    (list_any (ends_loan (unwrap_or s.target [])) (after s.seq (rs ++ r ∷ []))) ≡ true) =
    and_parts _ _ h in
    let two : (list_any (ends_loan (unwrap_or s.target [])) (after s.seq rs) ≡ false)
    × (list_any (ends_loan (unwrap_or s.target [])) (after s.seq (r ∷ [])) ≡ false) =
    or_parts _ _ (sym (ap (list_any (ends_loan (unwrap_or s.target [])))
    (filter-append (λ x. nat_lt s.seq x.seq) rs (r ∷ []))
    ∙ list_any-append (ends_loan (unwrap_or s.target [])) (after s.seq rs) (after s.seq (r ∷ [])))
    ∙ not_true _ parts.1) in
    and_from _ _ parts.0 (ap not two.0)

-- a merge ends the loan that it takes home
pub ended_by : (rs : List Receipt) (r s : Receipt) → s.seq < r.seq → is_open_among (rs ++ r ∷ []) s ≡ true
    → (is_merge r && ends_at r.source (unwrap_or s.target [])) ≡ false
ended_by rs r s lt h =
    let parts : ((is_split s && is_some s.target) ≡ true) × (not
    (list_any (ends_loan (unwrap_or s.target [])) (after s.seq (rs ++ r ∷ []))) ≡ true) =
    and_parts _ _ h in
    let two : (list_any (ends_loan (unwrap_or s.target [])) (after s.seq rs) ≡ false)
    × (list_any (ends_loan (unwrap_or s.target [])) (after s.seq (r ∷ [])) ≡ false) =
    or_parts _ _ (sym (ap (list_any (ends_loan (unwrap_or s.target [])))
    (filter-append (λ x. nat_lt s.seq x.seq) rs (r ∷ []))
    ∙ list_any-append (ends_loan (unwrap_or s.target [])) (after s.seq rs) (after s.seq (r ∷ [])))
    ∙ not_true _ parts.1) in
    let now : after s.seq (r ∷ []) ≡ r ∷ [] = rw (lt-ltb s.seq r.seq lt) refl in
    (or_parts (ends_loan (unwrap_or s.target []) r) false (sym (ap (list_any (ends_loan (unwrap_or s.target []))) now)
    ∙ two.1)).0

-- what is open is a split
pub open_is_split : (rs : List Receipt) (s : Receipt) → is_open_among rs s ≡ true → is_split s ≡ true
open_is_split rs s h = (and_parts (is_split s) (is_some s.target)
    (and_parts (is_split s && is_some s.target) (not (list_any (ends_loan (unwrap_or s.target [])) (after s.seq rs)))
    h).0).0

-- the loan of an open split is live
abbrev pub OpenIsLive : World → Receipt → Type 0
OpenIsLive w s = is_open_among (receipts_of w) s ≡ true → is_live w (unwrap_or s.target []) ≡ true

-- open loans stay live, and the new one is
pub open_kept : (w next : World) (r : Receipt) → receipts_of next ≡ receipts_of w ++ r ∷ []
    → AllByRecursion (λ s. s.seq < r.seq) (receipts_of w) → AllByRecursion (OpenIsLive w) (receipts_of w)
    → ((t : List ℕ) → (is_merge r && ends_at r.source t) ≡ false → is_live w t ≡ true
    → is_live next t ≡ true) → OpenIsLive next r → AllByRecursion (OpenIsLive next) (receipts_of next)
open_kept w next r e below old stays new =
    subst (AllByRecursion (OpenIsLive next)) (sym e) (All-snoc (OpenIsLive next) (receipts_of w) r
    (All-both (λ s. s.seq < r.seq) (OpenIsLive w) (OpenIsLive next)
    (λ s lt h open'.
    let as_listed : is_open_among (receipts_of w ++ r ∷ []) s ≡ true =
    subst (λ rs. is_open_among rs s ≡ true) e open' in
    stays (unwrap_or s.target []) (ended_by (receipts_of w) r s lt as_listed)
    (h (open_before (receipts_of w) r s as_listed)))
    (receipts_of w) below old)
    new)

-- ---- places

-- a number that is not below 0 counts
not_negative : (a : ℤ) → int_le (pos 0) a ≡ true → (n : ℕ) × (a ≡ pos n)
not_negative (pos n) h = (n, refl)
not_negative (negsuc n) h = absurd (false≢true h)

-- such numbers of one size are one
same_number : (a b : ℤ) → int_le (pos 0) a ≡ true → int_le (pos 0) b ≡ true
    → unsigned_abs a ≡ unsigned_abs b → a ≡ b
same_number a b ha hb e =
    let m : (n : ℕ) × (a ≡ pos n) = not_negative a ha in
    let n : (n : ℕ) × (b ≡ pos n) = not_negative b hb in
    m.1 ∙ ap pos (sym (ap unsigned_abs m.1) ∙ e ∙ ap unsigned_abs n.1) ∙ sym n.1

-- a number is no greater than itself
int_itself : (n : ℕ) → int_le (pos n) (pos n) ≡ true
int_itself n = search rules

-- a number is within itself
within_itself : (a b : ℤ) → int_le (pos 0) a ≡ true → a ≡ b → is_within a a b ≡ true
within_itself a b ha e =
    let m : (n : ℕ) × (a ≡ pos n) = not_negative a ha in
    subst (λ z. is_within a a z ≡ true) e (subst (λ z. is_within z z z ≡ true) (sym m.1)
    (and_from (int_le (pos m.0) (pos m.0)) (int_le (pos m.0) (pos m.0)) (int_itself m.0) (int_itself m.0)))

-- what is past a number that is not below 0
not_below : (a b : ℤ) → int_le (pos 0) a ≡ true → int_le a b ≡ true → int_le (pos 0) b ≡ true
not_below a (pos n) ha h = int_zero n
  where
    int_zero : (m : ℕ) → int_le (pos 0) (pos m) ≡ true
    int_zero m = search rules
not_below (pos m) (negsuc n) ha h = absurd (false≢true h)
not_below (negsuc m) (negsuc n) ha h = absurd (false≢true ha)

-- the second content is a tile at the place of the first
abbrev pub meets : Content → Content → Bool
meets (Tile zoom column row bytes) b = is_at zoom column row b
meets (Media content_type bytes) b = false
meets (Row x y code label) b = false

-- a free place meets no tile
pub takes_none : (x : Package) (a : Content) → takes_place x a ≡ false
    → AllByRecursion (λ i. meets a i.content ≡ false) x.items
takes_none x (Tile zoom column row bytes) h = none_pass (λ i. is_at zoom column row i.content) x.items h
takes_none x (Media content_type bytes) h = All-each (λ i. false ≡ false) (λ i. refl) x.items
takes_none x (Row a b code label) h = All-each (λ i. false ≡ false) (λ i. refl) x.items

-- a place has a level, a column and a row that are not negative
not_negative_place : (f : Frame) (z c r : ℤ) → int_le (pos 0) f.first_zoom ≡ true → has_place f z c r ≡ true
    → (int_le (pos 0) z ≡ true) × (int_le (pos 0) c ≡ true) × (int_le (pos 0) r ≡ true)
not_negative_place f z c r first h =
    let e4 : ((has_level f z && int_le (pos 0) c && int_lt c (width_at f (level_of f z)) && int_le (pos 0) r)
    ≡ true) × (int_lt r (height_at f (level_of f z)) ≡ true) = and_parts _ _ h in
    let e3 : ((has_level f z && int_le (pos 0) c && int_lt c (width_at f (level_of f z))) ≡ true)
    × (int_le (pos 0) r ≡ true) = and_parts _ _ e4.0 in
    let e2 : ((has_level f z && int_le (pos 0) c) ≡ true) × (int_lt c (width_at f (level_of f z)) ≡ true) =
    and_parts _ _ e3.0 in
    let e1 : (has_level f z ≡ true) × (int_le (pos 0) c ≡ true) = and_parts _ _ e2.0 in
    (not_below f.first_zoom z first (and_parts (int_le f.first_zoom z) _ e1.0).0, e1.1, e3.1)

-- tiles of one place meet
meets_same : (f : Frame) → int_le (pos 0) f.first_zoom ≡ true → (a b : Content)
    → kind_is TileItem (kind_of a) ≡ true → kind_is TileItem (kind_of b) ≡ true
    → ((z c r : ℤ) (bs : List ℕ) → a ≡ Tile z c r bs → has_place f z c r ≡ true)
    → ((z c r : ℤ) (bs : List ℕ) → b ≡ Tile z c r bs → has_place f z c r ≡ true)
    → place_of a ≡ place_of b → meets a b ≡ true
meets_same f first (Tile z c r bs) (Tile z' c' r' bs') ta tb pa pb e =
    let n : (int_le (pos 0) z ≡ true) × (int_le (pos 0) c ≡ true) × (int_le (pos 0) r ≡ true) =
    not_negative_place f z c r first (pa z c r bs refl) in
    let n' : (int_le (pos 0) z' ≡ true) × (int_le (pos 0) c' ≡ true) × (int_le (pos 0) r' ≡ true) =
    not_negative_place f z' c' r' first (pb z' c' r' bs' refl) in
    and_from _ _ (and_from _ _ (within_itself z z' n.0 (same_number z z' n.0 n'.0 (ap (λ ks. slice_index ks 0) e)))
    (within_itself c c' n.1 (same_number c c' n.1 n'.1 (ap (λ ks. slice_index ks 1) e))))
    (within_itself r r' n.2 (same_number r r' n.2 n'.2 (ap (λ ks. slice_index ks 2) e)))
meets_same f first (Tile z c r bs) (Media content_type bytes) ta tb pa pb e = absurd (false≢true tb)
meets_same f first (Tile z c r bs) (Row x y code label) ta tb pa pb e = absurd (false≢true tb)
meets_same f first (Media content_type bytes) b ta tb pa pb e = absurd (false≢true ta)
meets_same f first (Row x y code label) b ta tb pa pb e = absurd (false≢true ta)

-- a fit tile has a place
fit_place : (w : World) (x : Package) (i : Item) → IsFit w x i → (z c r : ℤ) (bs : List ℕ)
    → i.content ≡ Tile z c r bs → has_place w.frame z c r ≡ true
fit_place w x i h z c r bs e = not_false (has_place w.frame z c r)
    (subst (λ k. bad_place w (Add x.uuid i.identity k) ≡ false) e h.2)

-- the tests of a frame
abbrev frame_rows : Frame → List (Bool × FrameFault)
frame_rows f =
    (not (is_within (negsuc 0) (pos 999999) f.srs_id), BadSrs)
    ∷ (
      not (is_good_bound f.min_x && is_good_bound f.min_y && is_good_bound f.max_x && is_good_bound f.max_y &&
          int_lt f.min_x f.max_x && int_lt f.min_y f.max_y),
      BadBounds,
    )
    ∷ (not (is_within (pos 1) (pos 4096) f.tile_width && is_within (pos 1) (pos 4096) f.tile_height), BadTile)
    ∷ (
      not (int_le (pos 0) f.first_zoom && int_le (pos 1) f.levels && int_le (f.first_zoom +ℤ f.levels) (pos 21)),
      BadZoom,
    )
    ∷ (
      not (is_within (pos 1) (pos 2 *ℤ ten_to_12) f.matrix_width && is_within (pos 1) (pos 2 *ℤ ten_to_12)
          f.matrix_height),
      BadMatrix,
    )
    ∷ (
      not (divides (width_at f (last_level f) *ℤ f.tile_width) (f.max_x -ℤ f.min_x) && divides
          (height_at f (last_level f) *ℤ f.tile_height) (f.max_y -ℤ f.min_y)),
      Uneven,
    )
    ∷ []

-- the first level of a good frame is not negative
pub good_first : (f : Frame) → is_good_frame f ≡ true → int_le (pos 0) f.first_zoom ≡ true
good_first f good =
    let rows : AllByRecursion (λ (row : Bool × FrameFault). row.0 ≡ false) (frame_rows f) =
    rows_fail (frame_rows f) (none_fault (frame_fault f) good) in
    (and_parts (int_le (pos 0) f.first_zoom) (int_le (pos 1) f.levels)
    (and_parts (int_le (pos 0) f.first_zoom && int_le (pos 1) f.levels)
    (int_le (f.first_zoom +ℤ f.levels) (pos 21)) (not_false
    (int_le (pos 0) f.first_zoom && int_le (pos 1) f.levels && int_le (f.first_zoom +ℤ f.levels) (pos 21))
    rows.1.1.1.0)).0).0
  where
    none_fault : (o : Option FrameFault) → is_none o ≡ true → o ≡ None
    none_fault None h = refl
    none_fault (Some x) h = absurd (false≢true h)

-- a tile of this place
abbrev pub tile_at : List ℕ → Item → Bool
tile_at k i = is_tile i && bytes_eq (place_of i.content) k

-- two tests as one
two_tests : (n : ℕ) (b c : Bool) → cond b (cond c n 0) 0 ≡ cond (b && c) n 0
two_tests n true c = refl
two_tests n false c = refl

-- places are counted by tiles
pub places_count : (k : List ℕ) (items : List Item) → count_by (λ i. bytes_eq (place_of i.content) k)
    (filter is_tile items) ≡ count_by (tile_at k) items
places_count k items = sum_by-filter (λ i. cond (bytes_eq (place_of i.content) k) 1 0) is_tile items
    ∙ sum_by-same (λ i. cond (is_tile i) (cond (bytes_eq (place_of i.content) k) 1 0) 0)
    (λ i. cond (tile_at k i) 1 0)
    (λ i. two_tests 1 (is_tile i) (bytes_eq (place_of i.content) k)) items

-- where no item of one package takes a place in the other, no place is taken in both
pub apart_places : (w : World) (x y : Package) (k : List ℕ) → is_good_frame w.frame ≡ true
    → AllByRecursion (IsFit w x) x.items → AllByRecursion (IsFit w y) y.items
    → AllByRecursion (λ i. takes_place y i.content ≡ false) x.items
    → list_any (tile_at k) x.items ≡ true → list_any (tile_at k) y.items ≡ true → ⊥
apart_places w x y k good fit_x fit_y free some_x some_y =
    let i : (i : Item) × (find (tile_at k) x.items ≡ Some i) = found (tile_at k) x.items some_x in
    let j : (j : Item) × (find (tile_at k) y.items ≡ Some j) = found (tile_at k) y.items some_y in
    let i_fit : IsFit w x i.0 × (tile_at k i.0 ≡ true) = All-found (IsFit w x) (tile_at k) i.0 x.items i.1 fit_x in
    let i_free : (takes_place y i.0.content ≡ false) × (tile_at k i.0 ≡ true) =
    All-found (λ z. takes_place y z.content ≡ false) (tile_at k) i.0 x.items i.1 free in
    let j_fit : IsFit w y j.0 × (tile_at k j.0 ≡ true) = All-found (IsFit w y) (tile_at k) j.0 y.items j.1 fit_y in
    let j_free : (meets i.0.content j.0.content ≡ false) × (tile_at k j.0 ≡ true) =
    All-found (λ z. meets i.0.content z.content ≡ false) (tile_at k) j.0 y.items j.1
    (takes_none y i.0.content i_free.0) in
    let ti : (is_tile i.0 ≡ true) × (bytes_eq (place_of i.0.content) k ≡ true) =
    and_parts (is_tile i.0) (bytes_eq (place_of i.0.content) k) i_fit.1 in
    let tj : (is_tile j.0 ≡ true) × (bytes_eq (place_of j.0.content) k ≡ true) =
    and_parts (is_tile j.0) (bytes_eq (place_of j.0.content) k) j_fit.1 in
    let e : place_of i.0.content ≡ place_of j.0.content = (bytes_eq-Decides (place_of i.0.content) k).0 ti.1
    ∙ sym ((bytes_eq-Decides (place_of j.0.content) k).0 tj.1) in
    true≢false (sym (meets_same w.frame (good_first w.frame good) i.0.content j.0.content ti.0 tj.0
    (fit_place w x i.0 i_fit.0) (fit_place w y j.0 j_fit.0) e) ∙ j_free.0)

-- ---- a package of some of the items and links of another

-- the places of some of the items
pub places_less : (t : Item → Bool) (k : List ℕ) (items : List Item)
    → count_by (λ i. bytes_eq (place_of i.content) k) (filter is_tile (filter t items)) ≤ count_by
    (λ i. bytes_eq (place_of i.content) k) (filter is_tile items)
places_less t k items =
    let f : Item → ℕ = λ i. cond (bytes_eq (place_of i.content) k) 1 0 in
    omega (
      arith,
      sum_by-filter f is_tile (filter t items),
      sum_by-filter f is_tile items,
      filter_less
          (λ i. cond (is_tile i) (f i) 0) t items,
    )

-- such a package keeps the rules
pub filtered_kept : (w v : World) (x y : Package) (s : List ℕ → Bool) (u : Relation → Bool)
    → v.frame ≡ w.frame → y.items ≡ filter (λ i. s i.identity) x.items → y.links ≡ filter u x.links
    → IsUuid y.uuid → IsArranged receipt_key y.receipts → HasParent v y
    → AllByRecursion (λ l. u l ≡ true → (s l.base ≡ true) × (s l.other ≡ true)) x.links
    → IsKeptPackage w x → IsKeptPackage v y
filtered_kept w v x y s u frame items links uuid receipts up whole k = record {
  uuid = uuid;
  items = subst (IsArranged item_key) (sym items) (filter_arranged item_key t x.items k.items);
  links = subst (IsArranged link_key) (sym links) (filter_arranged link_key u x.links k.links);
  receipts = receipts;
  identities = subst (λ zs. IsDistinct bytes_eq (map (λ i. i.identity) zs)) (sym items)
      (counts_distinct (λ i. i.identity) (filter t x.items) (λ n. omega (
        arith,
        distinct_counts (λ i. i.identity) n x.items k.identities,
        filter_less
            (λ i. cond (bytes_eq i.identity n) 1 0) t x.items,
      )));
  uuids = subst (AllByRecursion (λ i. IsUuid i.identity)) (sym items)
      (All-filter (λ i. IsUuid i.identity) t x.items k.uuids);
  fit = subst (AllByRecursion (IsFit v y)) (sym items) (fit_all w v frame x y (filter t x.items)
      (All-filter (IsFit w x) t x.items k.fit));
  places = subst (λ zs. IsDistinct bytes_eq (map (λ i. place_of i.content) (filter is_tile zs))) (sym items)
      (counts_distinct (λ i. place_of i.content) (filter is_tile (filter t x.items))
      (λ n. omega (
        arith,
        distinct_counts (λ i. place_of i.content) n (filter is_tile x.items) k.places,
        places_less
            t n x.items,
      )));
  ends = subst (AllByRecursion (HasEnds y)) (sym links) (All-taken (HasEnds y) u x.links
      (All-both (HasEnds x) (λ l. u l ≡ true → (s l.base ≡ true) × (s l.other ≡ true))
      (λ l. u l ≡ true → HasEnds y l)
      (λ l h go taken. (
        kind_goes (base_kind l.mapping) l.base (go taken).0 h.0,
        kind_goes (other_kind l.mapping)
            l.other (go taken).1 h.1,
      )) x.links k.ends whole));
  parent = up;
}
  where
    t : Item → Bool
    t i = s i.identity

    kind_goes : (kind : MovedKind) (end : List ℕ) → s end ≡ true
        → has item_key (kind_number kind ∷ end) x.items ≡ true
        → has item_key (kind_number kind ∷ end) y.items ≡ true
    kind_goes kind end e h = ap (has item_key (kind_number kind ∷ end)) items
        ∙ any_filter (λ i. bytes_eq (item_key i) (kind_number kind ∷ end)) t x.items
        (λ i same. ap s (ap (drop 1) ((bytes_eq-Decides (item_key i) (kind_number kind ∷ end)).0 same)) ∙ e) h

-- ---- a loan stays one after one more receipt

-- the split that made a loan, and a merge that ends it
abbrev pub made_by : Package → Receipt → Bool
made_by x r = is_split r && ends_at r.target x.uuid && (r.seq == x.loan)

abbrev pub merged_by : Package → Receipt → Bool
merged_by x m = is_merge m && ends_at m.source x.uuid

-- the new receipt does not end it, and its parent keeps that of the split
pub loan_stays : (w next : World) (r : Receipt) (x : Package) → receipts_of next ≡ receipts_of w ++ r ∷ []
    → merged_by x r ≡ false
    → ((q : List ℕ) → ends_at x.parent q ≡ true → list_any (made_by x) (holdings w q).receipts ≡ true
    → list_any (made_by x) (holdings next q).receipts ≡ true)
    → IsLoan w x → IsLoan next x
loan_stays w next r x receipts spared kept h = at_parent x.parent kept h
  where
    at_parent : (o : Option (List ℕ)) → ((q : List ℕ) → ends_at o q ≡ true
        → list_any (made_by x) (holdings w q).receipts ≡ true
        → list_any (made_by x) (holdings next q).receipts ≡ true)
        → MatchOption o ⊤ (λ parent. (list_any (made_by x) (holdings w parent).receipts ≡ true)
        × (list_any (merged_by x) (after x.loan (receipts_of w)) ≡ false))
        → MatchOption o ⊤ (λ parent. (list_any (made_by x) (holdings next parent).receipts ≡ true)
        × (list_any (merged_by x) (after x.loan (receipts_of next)) ≡ false))
    at_parent None kept h = tt
    at_parent (Some parent) kept h = (
      kept parent (bytes_eq_itself parent) h.0,
      ap (λ rs. list_any (merged_by x) (after x.loan rs)) receipts
          ∙ none_after (merged_by x) x.loan (receipts_of w) r spared h.1,
    )

-- one more receipt at its parent
made_among_more : (x : Package) (r : Receipt) (rs : List Receipt) → list_any (made_by x) rs ≡ true
    → list_any (made_by x) (put receipt_key r rs) ≡ true
made_among_more x r rs h = list_any-put receipt_key (made_by x) r rs ∙ ap (λ b. made_by x r || b) h
    ∙ or-true (made_by x r)

-- a receipt that is no merge is put in order at p, and each other place keeps its receipts
pub loan_stays_with : (w next : World) (p : List ℕ) (r : Receipt) → receipts_of next ≡ receipts_of w ++ r ∷ []
    → is_merge r ≡ false → (holdings next p).receipts ≡ put receipt_key r (holdings w p).receipts
    → ((q : List ℕ) → bytes_eq q p ≡ false → (holdings next q).receipts ≡ (holdings w q).receipts)
    → (x : Package) → IsLoan w x → IsLoan next x
loan_stays_with w next p r receipts no_merge here elsewhere x h =
    loan_stays w next r x receipts (ap (λ b. b && ends_at r.source x.uuid) no_merge) (λ q _. made_there q) h
  where
    made_there : (q : List ℕ) → list_any (made_by x) (holdings w q).receipts ≡ true
        → list_any (made_by x) (holdings next q).receipts ≡ true
    made_there = by_place p (λ q. list_any (made_by x) (holdings w q).receipts ≡ true
        → list_any (made_by x) (holdings next q).receipts ≡ true)
        (λ made. ap (list_any (made_by x)) here ∙ made_among_more x r (holdings w p).receipts made)
        (λ q other made. ap (list_any (made_by x)) (elsewhere q other) ∙ made)
