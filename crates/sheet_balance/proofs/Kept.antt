-- What is held is what custody says, of holders and of their packages.
use Rattle.std.specs.Prelude.{◌≡◌, ◌↔◌, ◌&&◌, ◌||◌, ℕ, Bool, true, false, cond, IsTrue, List}
use Rattle.std.specs.Prelude.{[], ◌∷◌, map, Option, Some, None, is_some, unwrap_or, bytes_eq, refl}
use Rattle.std.proofs.Common.{sym, ap, subst, ◌∙◌}
use Rattle.std.specs.List.{list_any, AllByRecursion}
use Rattle.std.specs.Option.{option_and_then}
use Rattle.std.specs.Ordering.{nat_cmp, is_eq}
use Rattle.std.specs.Cmp.Lexicographic.{slice_cmp}
use Rattle.std.specs.Map.{lookup}
use Rattle.std.specs.BTreeMap.{BTreeMap}
use Rattle.std.specs.BTreeSet.{BTreeSet, contains}
use Rattle.std.proofs.lemmas.Bool.{true≢false, false≢true}
use Rattle.std.proofs.lemmas.Map.Text.{is_eq-slice_cmp}
use Rattle.std.proofs.lemmas.Slice.Eq.{bytes_eq-Decides}
use Rattle.sheet_types.specs.Ordered.{has, entry}
use Rattle.sheet_types.specs.World.{World, Package, no_package, receipts_of, package_key, moved_thing, item_moved}
use Rattle.sheet_types.specs.World.{link_moved, item_thing, link_key}
use Rattle.sheet_types.specs.Custody.{custody}
use Rattle.sheet_types.specs.Balance.{holds}
use Rattle.sheet_types.specs.declared.receipt.Receipt.{Receipt}
use Rattle.sheet_types.specs.declared.receipt.Moved.{Moved}
use Rattle.sheet_types.proofs.Every.{All-map, All-weaker}
use Rattle.sheet_laws.proofs.Facts.{items_held, links_held}
use Rattle.sheet_laws.proofs.Packages.{each_found}
use Rattle.sheet_laws.proofs.Shifting.{thing_item, thing_link}
use Rattle.sheet_ledger.specs.Accounts.{place_in, KeepsCustody}
use Rattle.sheet_ledger.specs.Parts.{HoldsWhatIsKept}
use Rattle.sheet_balance.specs.declared.holders.Holder.{Holder}
use Rattle.sheet_balance.specs.Holders.{IsHolderOf, AreHoldersOf, IsHeldWith, Stands, has_seen}

pub or_assoc : (a b c : Bool) → ((a || b) || c) ≡ (a || (b || c))
or_assoc true b c = refl
or_assoc false b c = refl

-- ---- a map of places

-- a thing stands nowhere, or is held
abbrev pub IsFound : BTreeSet (List ℕ) → List ℕ × Option (List ℕ) → Type 0
IsFound held e = is_some e.1 ≡ true → contains (slice_cmp nat_cmp) held e.0 ≡ true

pub found_held : (held : BTreeSet (List ℕ)) (es : List (List ℕ × Option (List ℕ)))
    → AllByRecursion (IsFound held) es → (thing : List ℕ) → is_some
    (option_and_then (λ p. p) (lookup (λ k. is_eq (slice_cmp nat_cmp thing k)) es)) ≡ true
    → contains (slice_cmp nat_cmp) held thing ≡ true
found_held held [] h thing some = absurd (false≢true some)
found_held held (e ∷ es) h thing some =
    elim (is_eq (slice_cmp nat_cmp thing e.0)) as (λ b. is_eq (slice_cmp nat_cmp thing e.0) ≡ b
    → is_some (option_and_then (λ p. p) (cond b (Some e.1)
    (lookup (λ k. is_eq (slice_cmp nat_cmp thing k)) es))) ≡ true
    → contains (slice_cmp nat_cmp) held thing ≡ true) [
      | true ↦ λ k s. subst (λ q. contains (slice_cmp nat_cmp) held q ≡ true)
          (sym ((bytes_eq-Decides thing e.0).0 (sym (is_eq-slice_cmp thing e.0) ∙ k))) (h.0 s)
      | false ↦ λ _ s. found_held held es h.1 thing s
    ] refl some

-- ---- a holder and its package

has_mapped : {X : Type 0} (f : X → Moved) (key : X → List ℕ) → ((x : X) → moved_thing (f x) ≡ key x)
    → (xs : List X) (thing : List ℕ) → has moved_thing thing (map f xs) ≡ has key thing xs
has_mapped f key same [] thing = refl
has_mapped f key same (x ∷ xs) thing = ap (λ k. bytes_eq k thing || has moved_thing thing (map f xs)) (same x)
    ∙ ap (λ b. bytes_eq (key x) thing || b) (has_mapped f key same xs thing)

seen_holds : (s : Holder) (p : Package) → IsHolderOf s p → (thing : List ℕ) → has_seen thing s ≡ holds p thing
seen_holds s p k thing =
    ap (λ xs. has moved_thing thing xs || has moved_thing thing s.links) k.items
    ∙ ap (λ b. b || has moved_thing thing s.links) (has_mapped item_moved item_thing thing_item p.items thing)
    ∙ ap (λ xs. has item_thing thing p.items || has moved_thing thing xs) k.links
    ∙ ap (λ b. has item_thing thing p.items || b) (has_mapped link_moved link_key thing_link p.links thing)

-- one of these is the thing, so it stands where they stand
one_stands : (place : List ℕ → Option (List ℕ)) (p : List ℕ) (ms : List Moved) (thing : List ℕ)
    → AllByRecursion (λ m. place (moved_thing m) ≡ Some p) ms → has moved_thing thing ms ≡ true
    → place thing ≡ Some p
one_stands place p [] thing h e = absurd (false≢true e)
one_stands place p (m ∷ ms) thing h e =
    elim (bytes_eq (moved_thing m) thing) as (λ b. bytes_eq (moved_thing m) thing ≡ b
    → (b || has moved_thing thing ms) ≡ true → place thing ≡ Some p) [
      | true ↦ λ k _. subst (λ q. place q ≡ Some p) ((bytes_eq-Decides (moved_thing m) thing).0 k) h.0
      | false ↦ λ _ r. one_stands place p ms thing h.1 r
    ] refl e

held_stands : (place : List ℕ → Option (List ℕ)) (s : Holder) (thing : List ℕ) → Stands place s
    → has_seen thing s ≡ true → place thing ≡ Some s.uuid
held_stands place s thing h e =
    elim (has moved_thing thing s.items) as (λ b. has moved_thing thing s.items ≡ b
    → (b || has moved_thing thing s.links) ≡ true → place thing ≡ Some s.uuid) [
      | true ↦ λ k _. one_stands place s.uuid s.items thing h.0 k
      | false ↦ λ _ r. one_stands place s.uuid s.links thing h.1 r
    ] refl e

-- what a package holds stands there by custody, so it does by its holder
package_stands : (place : List ℕ → Option (List ℕ)) (s : Holder) (p : Package) → IsHolderOf s p
    → ((thing : List ℕ) → holds p thing ≡ true → place thing ≡ Some p.uuid) → Stands place s
package_stands place s p k h = (
  subst (AllByRecursion (λ m. place (moved_thing m) ≡ Some s.uuid)) (sym k.items)
      (All-map (λ m. place (moved_thing m) ≡ Some s.uuid) item_moved p.items
      (All-weaker (λ i. holds p (item_thing i) ≡ true) (λ i. place (moved_thing (item_moved i)) ≡ Some s.uuid)
      (λ i e. ap place (thing_item i) ∙ h (item_thing i) e ∙ ap (λ u. Some u) (sym k.uuid)) p.items
      (items_held p))),
  subst (AllByRecursion (λ m. place (moved_thing m) ≡ Some s.uuid)) (sym k.links)
      (All-map (λ m. place (moved_thing m) ≡ Some s.uuid) link_moved p.links
      (All-weaker (λ l. holds p (link_key l) ≡ true) (λ l. place (moved_thing (link_moved l)) ≡ Some s.uuid)
      (λ l e. ap place (thing_link l) ∙ h (link_key l) e ∙ ap (λ u. Some u) (sym k.uuid)) p.links
      (links_held p))),
)

-- ---- holders and packages in turn

some_same : {X : Type 0} (a b : X) → Some a ≡ Some b → a ≡ b
some_same a b e = ap (λ o. unwrap_or o a) e

-- what is held somewhere stands there
there : (place : List ℕ → Option (List ℕ)) (ss : List Holder) (ps : List Package) → AreHoldersOf ss ps
    → AllByRecursion (Stands place) ss → (p thing : List ℕ) → holds
    (unwrap_or (entry package_key p ps) no_package) thing ≡ true → place thing ≡ Some p
there place [] [] h all p thing e = absurd (false≢true e)
there place [] (q ∷ ps) h all p thing e = absurd h
there place (s ∷ ss) [] h all p thing e = absurd h
there place (s ∷ ss) (q ∷ ps) h all p thing e =
    elim (bytes_eq q.uuid p) as (λ b. bytes_eq q.uuid p ≡ b → holds
    (unwrap_or (cond b (Some q) (entry package_key p ps)) no_package) thing ≡ true → place thing ≡ Some p) [
      | true ↦ λ k r. held_stands place s thing all.0 (seen_holds s q h.0 thing ∙ r)
          ∙ ap (λ u. Some u) (h.0.uuid ∙ (bytes_eq-Decides q.uuid p).0 k)
      | false ↦ λ _ r. there place ss ps h.1 all.1 p thing r
    ] refl e

-- what is held by a package is seen
seen_there : (ss : List Holder) (ps : List Package) → AreHoldersOf ss ps → (p thing : List ℕ)
    → holds (unwrap_or (entry package_key p ps) no_package) thing ≡ true → list_any (has_seen thing) ss ≡ true
seen_there [] [] h p thing e = e
seen_there [] (q ∷ ps) h p thing e = absurd h
seen_there (s ∷ ss) [] h p thing e = absurd h
seen_there (s ∷ ss) (q ∷ ps) h p thing e =
    elim (bytes_eq q.uuid p) as (λ b. holds (unwrap_or (cond b (Some q) (entry package_key p ps)) no_package) thing
    ≡ true → list_any (has_seen thing) (s ∷ ss) ≡ true) [
      | true ↦ λ r. ap (λ b. b || list_any (has_seen thing) ss) (seen_holds s q h.0 thing ∙ r)
      | false ↦ λ r. or_true (has_seen thing s) (list_any (has_seen thing) ss) (seen_there ss ps h.1 p thing r)
    ] e
  where
    or_true : (a b : Bool) → b ≡ true → (a || b) ≡ true
    or_true true b k = refl
    or_true false b k = k

-- what is seen, and stands in a package, is held by that
stands_held : (place : List ℕ → Option (List ℕ)) (all : List Package) (ss : List Holder) (ps : List Package)
    → AreHoldersOf ss ps → AllByRecursion (λ x. entry package_key x.uuid all ≡ Some x) ps
    → AllByRecursion (Stands place) ss
    → (p thing : List ℕ) → place thing ≡ Some p → list_any (has_seen thing) ss ≡ true
    → holds (unwrap_or (entry package_key p all) no_package) thing ≡ true
stands_held place all [] [] h found stands p thing at e = absurd (false≢true e)
stands_held place all [] (q ∷ ps) h found stands p thing at e = absurd h
stands_held place all (s ∷ ss) [] h found stands p thing at e = absurd h
stands_held place all (s ∷ ss) (q ∷ ps) h found stands p thing at e =
    elim (has_seen thing s) as (λ b. has_seen thing s ≡ b → (b || list_any (has_seen thing) ss) ≡ true
    → holds (unwrap_or (entry package_key p all) no_package) thing ≡ true) [
      | true ↦ λ k _.
          let here : q.uuid ≡ p = sym h.0.uuid ∙ some_same s.uuid p
          (sym (held_stands place s thing stands.0 k) ∙ at) in
          subst (λ u. holds (unwrap_or (entry package_key u all) no_package) thing ≡ true) here
          (ap (λ o. holds (unwrap_or o no_package) thing) found.0 ∙ sym (seen_holds s q h.0 thing) ∙ k)
      | false ↦ λ _ r. stands_held place all ss ps h.1 found.1 stands.1 p thing at r
    ] refl e

-- what each package holds stands there, so it does by each holder
each_stands : (place : List ℕ → Option (List ℕ)) (all : List Package) (ss : List Holder) (ps : List Package)
    → AreHoldersOf ss ps → AllByRecursion (λ x. entry package_key x.uuid all ≡ Some x) ps
    → ((p thing : List ℕ) → holds (unwrap_or (entry package_key p all) no_package) thing ≡ true
    → place thing ≡ Some p) → AllByRecursion (Stands place) ss
each_stands place all [] [] h found kept = tt
each_stands place all [] (q ∷ ps) h found kept = absurd h
each_stands place all (s ∷ ss) [] h found kept = absurd h
each_stands place all (s ∷ ss) (q ∷ ps) h found kept = (
  package_stands place s q h.0 (λ thing e. kept q.uuid thing
      (ap (λ o. holds (unwrap_or o no_package) thing) found.0 ∙ e)),
  each_stands place all ss ps h.1 found.1 kept,
)

-- ---- the answer

and_parts : (a b : Bool) → (a && b) ≡ true → (a ≡ true) × (b ≡ true)
and_parts true true e = (refl, refl)
and_parts true false e = absurd (true≢false (sym e))
and_parts false b e = absurd (true≢false (sym e))

-- a place that is some is that of a package
some_place : (o : Option (List ℕ)) → is_some o ≡ true → (p : List ℕ) × (o ≡ Some p)
some_place None e = absurd (false≢true e)
some_place (Some p) e = (p, refl)

pub kept_answer : (places : BTreeMap (List ℕ) (Option (List ℕ))) (held : BTreeSet (List ℕ))
    (ledger : List Receipt) (ss : List Holder) (a b : Bool) → KeepsCustody places ledger
    → ((thing : List ℕ) → contains (slice_cmp nat_cmp) held thing ≡ list_any (has_seen thing) ss)
    → IsTrue a ↔ AllByRecursion (Stands (place_in places)) ss
    → IsTrue b ↔ ((thing : List ℕ) → is_some (place_in places thing) ≡ true
    → contains (slice_cmp nat_cmp) held thing ≡ true)
    → (w : World) → IsHeldWith ledger ss w → IsTrue (a && b) ↔ HoldsWhatIsKept w
kept_answer places held ledger ss a b keeps has f g w h = (
  (λ e p thing.
      let parts : (a ≡ true) × (b ≡ true) = and_parts a b e in
      let stand : AllByRecursion (Stands (place_in places)) ss = f.0 parts.0 in (
        (λ k. sym (is thing) ∙ there (place_in places) ss w.packages h.held.packages stand p thing k),
        (λ k. let at : place_in places thing ≡ Some p = is thing ∙ k in
            stands_held (place_in places) w.packages ss w.packages h.held.packages found stand p thing at
            (sym (has thing) ∙ g.0 parts.1 thing (ap is_some at))),
      )),
  (λ kept.
      let first : a ≡ true = f.1 (each_stands (place_in places) w.packages ss w.packages h.held.packages found
      (λ p thing k. is thing ∙ (kept p thing).0 k)) in
      ap (λ x. x && b) first ∙ g.1 (λ thing some.
      let at = some_place (place_in places thing) some in
      has thing ∙ seen_there ss w.packages h.held.packages at.0 thing
      ((kept at.0 thing).1 (sym (is thing) ∙ at.1)))),
)
  where
    is : (thing : List ℕ) → place_in places thing ≡ custody (receipts_of w) thing
    is thing = keeps.place thing ∙ ap (λ rs. custody rs thing) h.whole

    found : AllByRecursion (λ x. entry package_key x.uuid w.packages ≡ Some x) w.packages
    found = each_found w.packages h.held.in_order
