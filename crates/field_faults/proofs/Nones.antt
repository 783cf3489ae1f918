-- Entries that are no whole list.
use Rattle.std.proofs.Common.{◌≡◌, ◌∙◌, ℕ, ◌<◌, List, [], ◌∷◌, map, length, true, false}
use Rattle.std.proofs.Common.{true≢false, refl, ap, sym}
use Rattle.std.proofs.Common.{Option, Some, None, Result, Ok, Err, IfOk, arith}
use Rattle.std.specs.Prelude.{◌↔◌, Bool, IsTrue, bytes_eq}
use Rattle.std.specs.declared.cmp.Ordering.{Ordering}
use Rattle.std.specs.declared.cmp.Ordering.TheVariants.{Less, Equal, Greater}
use Rattle.std.specs.Ordering.{is_lt, nat_cmp, ordering_then}
use Rattle.std.specs.Cmp.Lexicographic.{slice_cmp}
use Rattle.std.specs.List.{AllByRecursion, IsDistinct, filter_map}
use Rattle.std.proofs.lemmas.List.Sorted.{IsPermutation-sym}
use Rattle.sheet_types.specs.Ordered.{IsArranged, is_before}
use Rattle.sheet_types.proofs.Basics.{before-differs}
use Rattle.sheet_types.proofs.KeyOrder.{then_assoc}
use Rattle.field_changes.proofs.InOrder.{moved_apart}
use Rattle.field_changes.specs.declared.held.BadRecord.{BadRecord}
use Rattle.field_changes.specs.declared.held.Held.{Held}
use Rattle.field_changes.specs.declared.held.HeldItem.{HeldItem}
use Rattle.field_changes.specs.declared.held.HeldLink.{HeldLink}
use Rattle.field_lists.specs.declared.entries.Listed.{Listed}
use Rattle.field_faults.specs.Files.{bad_in, closes, export_in, frame_in, held_key, item_in, link_in, system_in}
use Rattle.field_faults.specs.Files.{IsHeld, IsOnly, LeadUnlessBad}

apart_from : {X : Type 0} (key : X → List ℕ) (k : List ℕ) (xs : List X)
    → AllByRecursion (λ y. is_before k (key y) ≡ true) xs → AllByRecursion (λ k'. bytes_eq k k' ≡ false)
    (map key xs)
apart_from key k [] h = tt
apart_from key k (y ∷ ys) h = (before-differs k (key y) h.0, apart_from key k ys h.1)

-- keys that rise differ
set_apart : {X : Type 0} (key : X → List ℕ) (xs : List X) → IsArranged key xs → IsDistinct bytes_eq (map key xs)
unfolding IsDistinct
set_apart key [] h = tt
set_apart key (x ∷ xs) h = (apart_from key (key x) xs h.0, set_apart key xs h.1)

pub many : {X : Type 0} (xs : List X) (one : Option X) → 1 < length xs → IsOnly xs one → ⊥
many [] one less only = absurd (omega (arith, less))
many (x ∷ []) one less only = absurd (omega (arith, less))
many (x ∷ y ∷ xs) None less only = absurd (cc)
many (x ∷ y ∷ xs) (Some z) less only = absurd (cc)

module _ (entries : List Listed) (h : Held) where
  pub not_closed : closes entries ≡ false → IsHeld entries h → ⊥
  not_closed e held = true≢false (sym held.closed ∙ e)

  pub two_exports : 1 < length (filter_map export_in entries) → IsHeld entries h → ⊥
  two_exports less held = many (filter_map export_in entries) h.export less held.export

  pub two_systems : 1 < length (filter_map system_in entries) → IsHeld entries h → ⊥
  two_systems less held = many (filter_map system_in entries) h.system less held.system

  pub two_frames : 1 < length (filter_map frame_in entries) → IsHeld entries h → ⊥
  two_frames less held = many (filter_map frame_in entries) h.frame less held.frame

  pub none_lead : (bads : List BadRecord) (items : List HeldItem) (links : List HeldLink) (all : Bool)
      → bads ≡ filter_map bad_in entries → items ≡ filter_map item_in entries
      → links ≡ filter_map link_in entries
      → (IsTrue all ↔ LeadUnlessBad bads items links) → all ≡ false → IsHeld entries h → ⊥
  none_lead bads items links true b i l it none held = true≢false none
  none_lead bads items links false b i l it none held =
      let lead : LeadUnlessBad bads items links = rw (b, i, l) held.lead in
      true≢false (sym (it.1 lead))

  pub one_twice : (IsDistinct bytes_eq (map held_key (filter_map item_in entries)) → ⊥) → IsHeld entries h → ⊥
  one_twice none held =
      none (moved_apart held_key h.items.items (filter_map item_in entries)
      (IsPermutation-sym (filter_map item_in entries) h.items.items held.same_items)
      (set_apart held_key h.items.items held.order))

-- what is asked only where nothing is in a list
pub unless : {E : Type 0} (n : ℕ) (L : Type 0) (r : Result Bool E) → n ≡ 0 → IfOk r (λ all. IsTrue all ↔ L)
    → IfOk r (λ all. IsTrue all ↔ (n ≡ 0 → L))
unless n L (Ok all) none it = (λ t e. it.0 t, λ f. it.1 (f none))
unless n L (Err e) none it = tt

then_equal : (o : Ordering) → ordering_then o Equal ≡ o
then_equal Less = refl
then_equal Equal = refl
then_equal Greater = refl

-- the order of three numbers in turn is that of the list of them
pub three_ordered : (m n s t u v : ℕ) → is_before (m ∷ s ∷ u ∷ []) (n ∷ t ∷ v ∷ [])
    ≡ is_lt (ordering_then (ordering_then (nat_cmp m n) (nat_cmp s t)) (nat_cmp u v))
three_ordered m n s t u v =
    ap (λ o. is_lt (ordering_then (nat_cmp m n) (ordering_then (nat_cmp s t) o))) (then_equal (nat_cmp u v))
    ∙ ap is_lt (then_assoc (nat_cmp m n) (nat_cmp s t) (nat_cmp u v))
