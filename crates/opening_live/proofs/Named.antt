-- All stores that live may live; so those that may, alone, tell which stores live.
use Rattle.std.specs.Prelude.{◌≡◌, ℕ, ℤ, zero, suc, Bool, true, false, cond, not, ◌&&◌, ◌||◌}
use Rattle.std.specs.Prelude.{nat_lt, List, [], ◌∷◌}
use Rattle.std.specs.Prelude.{map, filter, zip, length, refl, Option, Some, None, flat_map, bytes_eq, int_lt, String}
use Rattle.std.proofs.Common.{sym, ap, subst, ◌∙◌, inl, inr}
use Rattle.std.proofs.lemmas.Bool.{true≢false, and_parts, and_from, false_from_ne_true}
use Rattle.std.specs.List.{list_any}
use Rattle.std.specs.Option.{option_map_or}
use Rattle.std.specs.Ordering.{nat_cmp}
use Rattle.std.specs.Cmp.Lexicographic.{slice_cmp}
use Rattle.std.specs.BTreeMap.{BTreeMap}
use Rattle.std.specs.BTreeSet.{BTreeSet, contains}
use Rattle.sheet_types.specs.Opening.{Claim, claims_split, claims_merge, is_open_claim}
use Rattle.sheet_types.proofs.Basics.{or-true, not_true}
use Rattle.sheet_types.proofs.Every.{All-each, All-weaker}
use Rattle.sheet_types.proofs.Found.{filter_same}
use Rattle.sheet_types.proofs.Same.{In, In-all, In-filter, In-of_map, In-flat_map, any_in, any_at}
use Rattle.sheet_laws.proofs.Rounds as rounds
use Rattle.opening_faults.specs.Sights.{Any, nothing_read, head_seen, claims_seen, claim_said, frame_seen, is_root}
use Rattle.opening_faults.specs.Sights.{is_loan_of, is_live_store}
use Rattle.opening_faults.specs.Merges.{HasMerges, is_open_by}
use Rattle.opening_faults.specs.Splits.{split_made, makes_key, head_key, is_lent_in}
use Rattle.opening_faults.specs.declared.sights.Sight.{Sight}
use Rattle.opening_faults.specs.declared.sights.StoreHead.{StoreHead}
use Rattle.opening_faults.proofs.Growing.{at, said, same_test, found_is_live}
use Rattle.opening_faults.proofs.Turning.{found_headed, key_same, loan_headed}
use Rattle.opening_live.specs.Chosen.{flagged, live_flags}
use Rattle.opening_live.specs.Named.{names, names_by, may_live}
use Rattle.opening_live.proofs.Taken.{taken_again}

-- ---- what is noted

-- a store that is an archive's or one of the loans that are named may live
pub named_test : (stores : List Sight) (loans : BTreeSet (List ℕ))
    → ((key : List ℕ) → contains (slice_cmp nat_cmp) loans key ≡ list_any (λ s. names_by s key) stores)
    → (s : Sight) → (is_root s || is_lent_in loans s) ≡ may_live stores s
named_test stores loans noted s = ap (λ b. is_root s || b) (of_head s.head)
  where
    of_head : (o : Option StoreHead) → option_map_or (λ h. contains (slice_cmp nat_cmp) loans (head_key h)) o false
        ≡ option_map_or (λ h. list_any (λ above. names_by above (head_key h)) stores) o false
    of_head None = refl
    of_head (Some h) = noted (head_key h)

-- ---- what merges of a map tell of a claim

pub open_by_them : {Y : Type 0} (merges : BTreeMap (String Y) ℤ) (claims : List Claim) → HasMerges merges claims
    → (c : Claim) → is_open_by merges c ≡ is_open_claim claims c
open_by_them merges claims noted c = ap (λ b. claims_split c && nat_lt 0 (length c.target) && not b)
    (noted c.target c.seq)

-- ---- what lives may live

abbrev merges_it : Claim → Claim → Bool
merges_it c m = claims_merge m && bytes_eq m.source c.target && int_lt c.seq m.seq

-- a claim that is open among what a round says is open among what its own store says
open_alone : (stores : List Sight) (j : ℕ) (s : Sight) (c : Claim) → In s stores → at stores j s ≡ true
    → is_open_claim (said stores j) c ≡ true → is_open_claim (claims_seen s) c ≡ true
open_alone stores j s c i found «open» =
    let parts = and_parts (claims_split c && nat_lt 0 (length c.target))
    (not (list_any (merges_it c) (said stores j))) «open» in
    and_from _ _ parts.0 (ap not (false_from_ne_true (list_any (merges_it c) (claims_seen s)) (λ g.
    let m : (m : Claim) × In m (claims_seen s) × (merges_it c m ≡ true) = any_at (merges_it c) (claims_seen s) g in
    let there : In m.0 (said stores j) = In-flat_map claims_seen s m.0 (filter (at stores j) stores)
    (In-filter (at stores j) s stores i found) m.1 in
    true≢false (sym (any_in (merges_it c) m.0 (said stores j) there m.2) ∙ not_true _ parts.1))))

-- a store with an open split of a key names it
named_so : (s : Sight) (h : StoreHead) (c : Claim) (key : List ℕ) → s.head ≡ Some h → In c (claims_seen s)
    → is_open_claim (claims_seen s) c ≡ true → makes_key key (split_made h c) ≡ true → names_by s key ≡ true
named_so s h c key e i «open» made =
    let x = In-of_map claim_said c s.claims.items i in
    let test : names (is_open_claim (claims_seen s)) h (claim_said x.0) key ≡ true =
    subst (λ y. names (is_open_claim (claims_seen s)) h y key ≡ true) (sym x.2) (and_from _ _ «open» made) in
    ap (λ o. option_map_or (λ y. list_any (λ z. names (is_open_claim (claims_seen s)) y (claim_said z) key)
    s.claims.items) o false) e
    ∙ any_in (λ z. names (is_open_claim (claims_seen s)) h (claim_said z) key) x.0 s.claims.items x.1 test

pub lives_may : (stores : List Sight) (s : Sight) → is_live_store stores s ≡ true → may_live stores s ≡ true
lives_may stores s h =
    elim (rounds.origin Sight head_seen claims_seen Any Any frame_seen nothing_read stores (length stores) s h) [
      | inl root ↦ ap (λ b. b || option_map_or (λ x. list_any (λ above. names_by above (head_key x)) stores) s.head
          false) root
      | inr o ↦
          let above : (x : StoreHead) × (o.2.head ≡ Some x) = found_headed stores o.0 o.2 o.4 in
          let mine : (x : StoreHead) × (s.head ≡ Some x) = found_headed stores (length stores) s h in
          let made : makes_key (head_key mine.0) (split_made above.0 o.5) ≡ true =
          key_same mine.0 above.0 o.5 ∙ sym (loan_headed s mine.0 o.5 mine.1) ∙ o.7 in
          let named : names_by o.2 (head_key mine.0) ≡ true =
          named_so o.2 above.0 o.5 (head_key mine.0) above.1 o.6 (open_alone stores o.0 o.2 o.5 o.3 o.4 o.8)
          made in
          ap (λ e. is_root s || option_map_or (λ x. list_any (λ y. names_by y (head_key x)) stores) e false) mine.1
          ∙ ap (λ b. is_root s || b) (any_in (λ y. names_by y (head_key mine.0)) o.2 stores o.3 named)
          ∙ or-true (is_root s)
    ]

-- ---- a choice in which all are that live

module _ (stores : List Sight) (t : Sight → Bool) (keeps : (s : Sight) → is_live_store stores s ≡ true
    → t s ≡ true) where
  abbrev some : List Sight
  some = filter t stores

  taken : (k : ℕ) → filter (at stores k) some ≡ filter (at stores k) stores
  taken k = taken_again (at stores k) t stores (All-weaker (λ s. In s stores)
      (λ s. at stores k s ≡ true → t s ≡ true)
      (λ s i h. keeps s (found_is_live stores k s i h)) stores (In-all stores))

  said_by : (k : ℕ) → ((s : Sight) → at some k s ≡ at stores k s) → said some k ≡ said stores k
  said_by k same = ap (flat_map claims_seen) (filter_same (at some k) (at stores k) some
      (All-each (λ s. at some k s ≡ at stores k s) same some) ∙ taken k)

  reached_same : (k : ℕ) (s : Sight) → at some k s ≡ at stores k s
  reached_same zero s = refl
  reached_same (suc k) s =
      ap (λ b. b || list_any (λ c. is_loan_of c s && is_open_claim (said some k) c) (said some k)) (reached_same k s)
      ∙ ap (λ cs. at stores k s || list_any (λ c. is_loan_of c s && is_open_claim cs c) cs)
      (said_by k (reached_same k))

  -- it tells with them who lives
  pub live_by_them : (s : Sight) → In s stores → (t s && is_live_store some s) ≡ is_live_store stores s
  live_by_them s i =
      elim (t s) as (λ v. t s ≡ v → (v && is_live_store some s) ≡ is_live_store stores s) [
        | true ↦ λ e. same_test (is_live_store some s) (is_live_store stores s)
            (λ g. found_is_live stores (length some) s i (sym (reached_same (length some) s) ∙ g))
            (λ g. found_is_live some (length stores) s (In-filter t s stores i e)
            (reached_same (length stores) s ∙ g))
        | false ↦ λ e. sym (false_from_ne_true (is_live_store stores s) (λ g. true≢false (sym (keeps s g) ∙ e)))
      ] refl

-- ---- flags

map_there : {X Y : Type 0} (f g : X → Y) (xs : List X) → ((x : X) → In x xs → f x ≡ g x)
    → map f xs ≡ map g xs
map_there f g [] same = refl
map_there f g (x ∷ xs) same = ap (λ y. y ∷ map f xs) (same x (inl refl))
    ∙ ap (λ ys. g x ∷ ys) (map_there f g xs (λ z i. same z (inr i)))

-- what flags take of what flags took
taken_twice : {X Y : Type 0} (t u : X → Bool) (xs : List X) (ys : List Y)
    → flagged (map u (filter t xs)) (flagged (map t xs) ys) ≡ flagged (map (λ x. t x && u x) xs) ys
taken_twice t u [] [] = refl
taken_twice t u [] (y ∷ ys) = refl
taken_twice t u (x ∷ xs) [] = refl
taken_twice t u (x ∷ xs) (y ∷ ys) =
    let rest : flagged (map u (filter t xs)) (flagged (map t xs) ys) ≡ flagged (map (λ z. t z && u z) xs) ys =
    taken_twice t u xs ys in
    elim (t x) as (λ v. flagged (map u (cond v (x ∷ filter t xs) (filter t xs)))
    (map (λ p. p.0) (cond v ((y, v) ∷ filter (λ p. p.1) (zip ys (map t xs)))
    (filter (λ p. p.1) (zip ys (map t xs)))))
    ≡ map (λ p. p.0) (cond (v && u x) ((y, v && u x) ∷ filter (λ p. p.1) (zip ys (map (λ z. t z && u z) xs)))
    (filter (λ p. p.1) (zip ys (map (λ z. t z && u z) xs))))) [
      | true ↦ elim (u x) as (λ v. map (λ p. p.0) (cond v ((y, v)
          ∷ filter (λ p. p.1) (zip (flagged (map t xs) ys) (map u (filter t xs))))
          (filter (λ p. p.1) (zip (flagged (map t xs) ys) (map u (filter t xs)))))
          ≡ map (λ p. p.0) (cond v ((y, v) ∷ filter (λ p. p.1) (zip ys (map (λ z. t z && u z) xs)))
          (filter (λ p. p.1) (zip ys (map (λ z. t z && u z) xs))))) [
            | true ↦ ap (λ zs. y ∷ zs) rest
            | false ↦ rest
          ]
      | false ↦ rest
    ]

-- who lives among those that may live, which a test tells
pub live_twice : {Y : Type 0} (stores : List Sight) (ys : List Y) (t : Sight → Bool)
    → ((s : Sight) → t s ≡ may_live stores s)
    → flagged (live_flags (filter t stores)) (flagged (map t stores) ys) ≡ flagged (live_flags stores) ys
live_twice stores ys t same =
    taken_twice t (is_live_store (filter t stores)) stores ys
    ∙ ap (λ flags. flagged flags ys) (map_there (λ s. t s && is_live_store (filter t stores) s)
    (is_live_store stores)
    stores (live_by_them stores t (λ s h. same s ∙ lives_may stores s h)))
