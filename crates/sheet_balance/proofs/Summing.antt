-- The sums of what is seen are those of what is held.
use Rattle.std.specs.Prelude.{◌≡◌, ◌↔◌, ◌+◌, ◌||◌, ◌&&◌, IsTrue, ℕ, suc, Bool, true, false}
use Rattle.std.specs.Prelude.{cond, List, [], ◌∷◌, length, map, Some, None, bytes_eq, refl, unwrap_or, filter}
use Rattle.std.specs.Prelude.{sum_by, count_by}
use Rattle.std.proofs.Common.{sym, ap, subst, ◌∙◌, arith}
use Rattle.std.proofs.lemmas.Bool.{true≢false}
use Rattle.std.proofs.lemmas.Slice.Eq.{bytes_eq-Decides}
use Rattle.std.proofs.lemmas.List.Sums.{sum_by-cons}
use Rattle.std.specs.List.{list_any, AllByRecursion}
use Rattle.sheet_types.specs.Ordered.{entry, IsArranged}
use Rattle.sheet_types.specs.Texts.{size, kind_of}
use Rattle.sheet_types.specs.World.{World, Package, holdings, no_package, package_key, kind_is, item_moved}
use Rattle.sheet_types.specs.World.{link_moved, is_tile, is_medium, is_row}
use Rattle.sheet_types.specs.Step.{count_of}
use Rattle.sheet_types.specs.Custody.{ends_at}
use Rattle.sheet_types.specs.Balance.{AddsUp}
use Rattle.sheet_types.specs.declared.receipt.Receipt.{Receipt}
use Rattle.sheet_types.specs.declared.receipt.MovedKind.{MovedKind}
use Rattle.sheet_types.specs.declared.receipt.MovedKind.TheVariants.{TileItem, MediaItem, RowItem}
use Rattle.sheet_types.proofs.Every.{All-weaker}
use Rattle.std.specs.BTreeMap.{BTreeMap}
use Rattle.std.specs.BTreeSet.{BTreeSet, contains}
use Rattle.std.specs.Ordering.{nat_cmp}
use Rattle.std.specs.Cmp.Lexicographic.{slice_cmp}
use Rattle.sheet_ledger.specs.Flows.{flow_by, flow_in, HasFlows}
use Rattle.sheet_ledger.specs.declared.flows.Flow.{Flow}
use Rattle.sheet_ledger.specs.Parts.{SumsAddUp}
use Rattle.sheet_ledger.specs.declared.flows.Totals.{Totals}
use Rattle.sheet_laws.proofs.Packages.{each_found}
use Rattle.sheet_balance.specs.declared.holders.Holder.{Holder}
use Rattle.sheet_balance.specs.Holders.{IsHolderOf, AreHoldersOf, IsHeldWith, ComesUpIn}

abbrev pub is_seen : List Holder → List ℕ → Bool
is_seen ss p = list_any (λ s. bytes_eq s.uuid p) ss

module _ (came left : List ℕ → ℕ) (seen : Holder → ℕ) (held : Package → ℕ)
    (same : (s : Holder) (p : Package) → IsHolderOf s p → seen s ≡ held p) (nothing : held no_package ≡ 0) where
  -- of each that is seen what came is what left and what is held, and of no other is anything left: so it is of every
  -- UUID
  pub sums_held : (ss : List Holder) (ps : List Package) → AreHoldersOf ss ps
      → AllByRecursion (λ s. came s.uuid ≡ left s.uuid + seen s) ss → (p : List ℕ)
      → (is_seen ss p ≡ false → came p ≡ left p) → came p ≡ left p + held
      (unwrap_or (entry package_key p ps) no_package)
  sums_held [] [] h all p other = omega (arith, other refl, nothing)
  sums_held [] (q ∷ ps) h all p other = absurd h
  sums_held (s ∷ ss) [] h all p other = absurd h
  sums_held (s ∷ ss) (q ∷ ps) h all p other =
      subst (λ id. came p ≡ left p + held (unwrap_or (cond (bytes_eq id p) (Some q) (entry package_key p ps))
      no_package)) h.0.uuid (
      elim (bytes_eq s.uuid p) as (λ b. bytes_eq s.uuid p ≡ b
      → ((b || is_seen ss p) ≡ false → came p ≡ left p) → came p
      ≡ left p + held (unwrap_or (cond b (Some q) (entry package_key p ps)) no_package)) [
        | true ↦ λ e _. subst (λ id. came id ≡ left id + held q) ((bytes_eq-Decides s.uuid p).0 e)
            (all.0 ∙ ap (λ k. left s.uuid + k) (same s q h.0))
        | false ↦ λ _ f. sums_held ss ps h.1 all.1 p f
      ] refl other)

  -- what is not seen is not there
  not_there : (ss : List Holder) (ps : List Package) → AreHoldersOf ss ps → (p : List ℕ)
      → is_seen ss p ≡ false → entry package_key p ps ≡ None
  not_there [] [] h p e = refl
  not_there [] (q ∷ ps) h p e = absurd h
  not_there (s ∷ ss) [] h p e = absurd h
  not_there (s ∷ ss) (q ∷ ps) h p e =
      subst (λ id. cond (bytes_eq id p) (Some q) (entry package_key p ps) ≡ None) h.0.uuid (
      elim (bytes_eq s.uuid p) as (λ b. (b || is_seen ss p) ≡ false
      → cond b (Some q) (entry package_key p ps) ≡ None) [
        | true ↦ λ k. absurd (true≢false k)
        | false ↦ λ k. not_there ss ps h.1 p k
      ] e)

  pub unseen_left : (ss : List Holder) (w : World) → AreHoldersOf ss w.packages
      → ((p : List ℕ) → came p ≡ left p + held (holdings w p)) → (p : List ℕ) → is_seen ss p ≡ false
      → came p ≡ left p
  unseen_left ss w h sums p e = omega (
    arith,
    sums p,
    ap (λ o. held (unwrap_or o no_package))
        (not_there ss w.packages h p e),
    nothing,
  )

  of_each : (all : List Package) (ss : List Holder) (ps : List Package) → AreHoldersOf ss ps
      → AllByRecursion (λ x. entry package_key x.uuid all ≡ Some x) ps
      → ((p : List ℕ) → came p ≡ left p + held (unwrap_or (entry package_key p all) no_package))
      → AllByRecursion (λ s. came s.uuid ≡ left s.uuid + seen s) ss
  of_each all [] [] h found sums = tt
  of_each all [] (q ∷ ps) h found sums = absurd h
  of_each all (s ∷ ss) [] h found sums = absurd h
  of_each all (s ∷ ss) (q ∷ ps) h found sums = (
    sums s.uuid ∙ ap (λ id. left s.uuid + held (unwrap_or (entry package_key id all) no_package)) h.0.uuid
        ∙ ap (λ o. left s.uuid + held (unwrap_or o no_package)) found.0
        ∙ ap (λ k. left s.uuid + k) (sym (same s q h.0)),
    of_each all ss ps h.1 found.1 sums,
  )

  pub seen_each : (ss : List Holder) (w : World) → AreHoldersOf ss w.packages → IsArranged package_key w.packages
      → ((p : List ℕ) → came p ≡ left p + held (holdings w p))
      → AllByRecursion (λ s. came s.uuid ≡ left s.uuid + seen s) ss
  seen_each ss w h order sums = of_each w.packages ss w.packages h (each_found w.packages order) sums

-- ---- of a world that is seen

sum_of_map : {X Y : Type 0} (f : Y → ℕ) (g : X → Y) (xs : List X)
    → sum_by f (map g xs) ≡ sum_by (λ x. f (g x)) xs
sum_of_map f g [] = refl
sum_of_map f g (x ∷ xs) = omega (
  arith,
  sum_by-cons f (g x) (map g xs),
  sum_by-cons (λ y. f (g y)) x xs,
  sum_of_map
      f g xs,
)

length_of_map : {X Y : Type 0} (g : X → Y) (xs : List X) → length (map g xs) ≡ length xs
length_of_map g [] = refl
length_of_map g (x ∷ xs) = ap suc (length_of_map g xs)

counted : (kind : MovedKind) (s : Holder) (p : Package) → IsHolderOf s p
    → count_of kind s.items ≡ count_by (λ i. kind_is kind (kind_of i.content)) p.items
counted kind s p k = ap (count_of kind) k.items ∙ sum_of_map (λ m. cond (kind_is kind m.kind) 1 0) item_moved p.items

linked : (s : Holder) (p : Package) → IsHolderOf s p → length s.links ≡ length p.links
linked s p k = ap length k.links ∙ length_of_map link_moved p.links

sized : (s : Holder) (p : Package) → IsHolderOf s p → sum_by (λ m. m.size) s.items
    ≡ sum_by (λ i. size i.content) p.items
sized s p k = ap (sum_by (λ m. m.size)) k.items ∙ sum_of_map (λ m. m.size) item_moved p.items

-- what is seen adds up, and all that came to others left them
pub record SumsSeen (ledger : List Receipt) (ss : List Holder) : Type 0 where
  pub held : AllByRecursion (ComesUpIn ledger) ss
  pub others : (p : List ℕ) → is_seen ss p ≡ false → (flow_by ledger p).came ≡ (flow_by ledger p).left

module _ (ledger : List Receipt) (ss : List Holder) (w : World) (h : IsHeldWith ledger ss w) where
  abbrev came_by : (Receipt → ℕ) → List ℕ → ℕ
  came_by f p = sum_by f (filter (λ r. ends_at r.target p) ledger)

  abbrev left_by : (Receipt → ℕ) → List ℕ → ℕ
  left_by f p = sum_by f (filter (λ r. ends_at r.source p) ledger)

  -- by one measure
  adds_up : (f : Receipt → ℕ) (seen : Holder → ℕ) (held : Package → ℕ)
      → ((s : Holder) (p : Package) → IsHolderOf s p → seen s ≡ held p) → held no_package ≡ 0
      → AllByRecursion (λ s. came_by f s.uuid ≡ left_by f s.uuid + seen s) ss
      → ((p : List ℕ) → is_seen ss p ≡ false → came_by f p ≡ left_by f p) → AddsUp w f held
  adds_up f seen held same nothing all others = subst (λ rs. (p : List ℕ)
      → sum_by f (filter (λ r. ends_at r.target p) rs) ≡ sum_by f (filter (λ r. ends_at r.source p) rs) + held
      (holdings w p)) h.whole
      (λ p. sums_held (came_by f) (left_by f) seen held same nothing ss w.packages h.held.packages all p (others p))

  summed : (f : Receipt → ℕ) (held : Package → ℕ) → AddsUp w f held → (p : List ℕ)
      → came_by f p ≡ left_by f p + held (holdings w p)
  summed f held sums = subst (λ rs. (p : List ℕ) → sum_by f (filter (λ r. ends_at r.target p) rs)
      ≡ sum_by f (filter (λ r. ends_at r.source p) rs) + held (holdings w p)) (sym h.whole) sums

  each_of : (f : Receipt → ℕ) (seen : Holder → ℕ) (held : Package → ℕ)
      → ((s : Holder) (p : Package) → IsHolderOf s p → seen s ≡ held p) → held no_package ≡ 0
      → AddsUp w f held → AllByRecursion (λ s. came_by f s.uuid ≡ left_by f s.uuid + seen s) ss
  each_of f seen held same nothing sums = seen_each (came_by f) (left_by f) seen held same nothing ss w
      h.held.packages h.held.in_order (summed f held sums)

  left_of : (f : Receipt → ℕ) (seen : Holder → ℕ) (held : Package → ℕ)
      → ((s : Holder) (p : Package) → IsHolderOf s p → seen s ≡ held p) → held no_package ≡ 0
      → AddsUp w f held → (p : List ℕ) → is_seen ss p ≡ false → came_by f p ≡ left_by f p
  left_of f seen held same nothing sums = unseen_left (came_by f) (left_by f) seen held same nothing ss w
      h.held.packages (summed f held sums)

  sums_there : SumsSeen ledger ss → SumsAddUp w
  sums_there s = record {
    tiles = adds_up (λ r. r.tiles) (λ x. count_of TileItem x.items) (λ p. count_by is_tile p.items)
        (counted TileItem) refl (All-weaker (ComesUpIn ledger) _ (λ x k. k.tiles) ss s.held)
        (λ p e. ap (λ t. t.tiles) (s.others p e));
    media = adds_up (λ r. r.media) (λ x. count_of MediaItem x.items) (λ p. count_by is_medium p.items)
        (counted MediaItem) refl (All-weaker (ComesUpIn ledger) _ (λ x k. k.media) ss s.held)
        (λ p e. ap (λ t. t.media) (s.others p e));
    rows = adds_up (λ r. r.rows) (λ x. count_of RowItem x.items) (λ p. count_by is_row p.items) (counted RowItem)
        refl (All-weaker (ComesUpIn ledger) _ (λ x k. k.rows) ss s.held) (λ p e. ap (λ t. t.rows) (s.others p e));
    links = adds_up (λ r. r.links) (λ x. length x.links) (λ p. length p.links) linked refl
        (All-weaker (ComesUpIn ledger) _ (λ x k. k.links) ss s.held) (λ p e. ap (λ t. t.links) (s.others p e));
    bytes = adds_up (λ r. r.bytes) (λ x. sum_by (λ m. m.size) x.items)
        (λ p. sum_by (λ i. size i.content) p.items) sized refl
        (All-weaker (ComesUpIn ledger) _ (λ x k. k.bytes) ss s.held) (λ p e. ap (λ t. t.bytes) (s.others p e));
  }

  totals_same : (a b : Totals) → a.tiles ≡ b.tiles → a.media ≡ b.media → a.rows ≡ b.rows
      → a.links ≡ b.links → a.bytes ≡ b.bytes → a ≡ b
  totals_same a b t m r l y =
      ap (λ k. record { tiles = k; media = a.media; rows = a.rows; links = a.links; bytes = a.bytes }) t
      ∙ ap (λ k. record { tiles = b.tiles; media = k; rows = a.rows; links = a.links; bytes = a.bytes }) m
      ∙ ap (λ k. record { tiles = b.tiles; media = b.media; rows = k; links = a.links; bytes = a.bytes }) r
      ∙ ap (λ k. record { tiles = b.tiles; media = b.media; rows = b.rows; links = k; bytes = a.bytes }) l
      ∙ ap (λ k. record { tiles = b.tiles; media = b.media; rows = b.rows; links = b.links; bytes = k }) y

  five : (t m r l b : Holder → Type 0) → ((s : Holder) → t s → m s → r s → l s → b s
      → ComesUpIn ledger s) → (xs : List Holder) → AllByRecursion t xs → AllByRecursion m xs
      → AllByRecursion r xs → AllByRecursion l xs → AllByRecursion b xs → AllByRecursion (ComesUpIn ledger) xs
  five t m r l b f [] _ _ _ _ _ = tt
  five t m r l b f (s ∷ xs) at am ar al ab = (
    f s at.0 am.0 ar.0 al.0 ab.0,
    five t m r l b f xs at.1 am.1 ar.1 al.1
        ab.1,
  )

  sums_back : SumsAddUp w → SumsSeen ledger ss
  sums_back a = record {
    held = five _ _ _ _ _ (λ s t m r l b. record { tiles = t; media = m; rows = r; links = l; bytes = b }) ss
        (each_of (λ r. r.tiles) (λ x. count_of TileItem x.items) (λ p. count_by is_tile p.items) (counted TileItem)
        refl a.tiles)
        (each_of (λ r. r.media) (λ x. count_of MediaItem x.items) (λ p. count_by is_medium p.items)
        (counted MediaItem) refl a.media)
        (each_of (λ r. r.rows) (λ x. count_of RowItem x.items) (λ p. count_by is_row p.items) (counted RowItem)
        refl a.rows)
        (each_of (λ r. r.links) (λ x. length x.links) (λ p. length p.links) linked refl a.links)
        (each_of (λ r. r.bytes) (λ x. sum_by (λ m. m.size) x.items) (λ p. sum_by (λ i. size i.content) p.items)
        sized refl a.bytes);
    others = λ p e. totals_same (flow_by ledger p).came (flow_by ledger p).left
        (left_of (λ r. r.tiles) (λ x. count_of TileItem x.items) (λ p. count_by is_tile p.items) (counted TileItem)
        refl a.tiles p e)
        (left_of (λ r. r.media) (λ x. count_of MediaItem x.items) (λ p. count_by is_medium p.items)
        (counted MediaItem) refl a.media p e)
        (left_of (λ r. r.rows) (λ x. count_of RowItem x.items) (λ p. count_by is_row p.items) (counted RowItem)
        refl a.rows p e)
        (left_of (λ r. r.links) (λ x. length x.links) (λ p. length p.links) linked refl a.links p e)
        (left_of (λ r. r.bytes) (λ x. sum_by (λ m. m.size) x.items) (λ p. sum_by (λ i. size i.content) p.items)
        sized refl a.bytes p e);
  }

  pub seen_sums : SumsSeen ledger ss ↔ SumsAddUp w
  seen_sums = (sums_there, sums_back)

-- ---- the answer

and_parts : (a b : Bool) → (a && b) ≡ true → (a ≡ true) × (b ≡ true)
and_parts true true e = (refl, refl)
and_parts true false e = absurd (true≢false (sym e))
and_parts false b e = absurd (true≢false (sym e))

pub sums_answer : (flows : BTreeMap (List ℕ) Flow) (uuids : BTreeSet (List ℕ)) (ledger : List Receipt)
    (ss : List Holder) (a b : Bool) → HasFlows flows ledger →
    ((p : List ℕ) → contains (slice_cmp nat_cmp) uuids p ≡ is_seen ss p)
    → IsTrue a ↔ AllByRecursion (ComesUpIn ledger) ss
    → IsTrue b ↔ ((p : List ℕ) → contains (slice_cmp nat_cmp) uuids p ≡ false
    → (flow_in flows p).came ≡ (flow_in flows p).left) → (w : World) → IsHeldWith ledger ss w
    → IsTrue (a && b) ↔ SumsAddUp w
sums_answer flows uuids ledger ss a b has known f g w h = (
  (λ e. let parts : (a ≡ true) × (b ≡ true) = and_parts a b e in
      (seen_sums ledger ss w h).0 (record {
        held = f.0 parts.0;
        others =
            λ p no. ap (λ x. x.came) (sym (has.flow p)) ∙ g.0 parts.1 p (known p ∙ no)
            ∙ ap (λ x. x.left) (has.flow p);
      })),
  (λ s. let back : SumsSeen ledger ss = (seen_sums ledger ss w h).1 s in
      let first : a ≡ true = f.1 back.held in
      ap (λ x. x && b) first ∙ g.1 (λ p no. ap (λ x. x.came) (has.flow p)
      ∙ back.others p (sym (known p) ∙ no) ∙ ap (λ x. x.left) (sym (has.flow p)))),
)
