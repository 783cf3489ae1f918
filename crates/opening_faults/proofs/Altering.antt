-- Items that are not as they were added: what is listed of holders is what is altered in the world.
use Rattle.std.specs.Prelude.{◌≡◌, ◌⊎◌, ℕ, Bool, true, false, cond, not, ◌&&◌, List, [], ◌∷◌}
use Rattle.std.specs.Prelude.{filter, find, flat_map}
use Rattle.std.specs.Prelude.{Option, Some, None, unwrap_or, bytes_eq, Contains, refl}
use Rattle.std.proofs.Common.{sym, ap, subst, ◌∙◌, inl, inr}
use Rattle.std.proofs.lemmas.Bool.{true≢false}
use Rattle.std.specs.List.{list_any}
use Rattle.std.specs.Ordering.{nat_cmp}
use Rattle.std.specs.Cmp.Lexicographic.{slice_cmp}
use Rattle.std.specs.BTreeSet.{BTreeSet, contains}
use Rattle.sheet_types.specs.Balance.{altered, is_unaltered, names_as}
use Rattle.sheet_types.specs.Custody.{is_add}
use Rattle.sheet_types.specs.Ordered.{is_before, put, arranged, least}
use Rattle.sheet_types.specs.Texts.{size, fingerprint}
use Rattle.sheet_types.specs.World.{World, Package, item_moved, receipts_of}
use Rattle.sheet_types.specs.declared.command.Item.{Item}
use Rattle.sheet_types.specs.declared.receipt.Moved.{Moved}
use Rattle.sheet_types.specs.declared.receipt.Receipt.{Receipt}
use Rattle.std.proofs.lemmas.Slice.Eq.{bytes_eq-Decides}
use Rattle.sheet_types.proofs.Basics.{not_true, before_not_after, before_other_way}
use Rattle.sheet_types.proofs.Same.{In, In-filter, In-map, In-of_map, In-flat_map, In-of_flat_map, Contains-In}
use Rattle.sheet_balance.specs.declared.holders.Holder.{Holder}
use Rattle.sheet_balance.specs.Holders.{IsHolderOf, AreHoldersOf, IsHeldWith}
use Rattle.opening_faults.specs.Altered.{item_said, adds_item, IsAlteredIn}
use Rattle.opening_faults.specs.Foreign.{Adds}
use Rattle.opening_faults.specs.Least.{IsLeastOf}
use Rattle.opening_faults.proofs.Apart.{listed}
use Rattle.opening_faults.proofs.Choosing.{itself, not_before}
use Rattle.opening_faults.proofs.ItemOrder.{keys_same}
use Rattle.opening_faults.proofs.Members.{contained}
use Rattle.opening_faults.proofs.Turning.{of_filter}

-- ---- the least of a list is its first in order

least_put : (x : List ℕ) (zs xs : List (List ℕ)) → ((id : List ℕ) → In id zs → In id xs)
    → ((id : List ℕ) → In id xs → In id zs) → IsLeastOf (find (λ _. true) zs) xs
    → IsLeastOf (find (λ _. true) (put (λ k. k) x zs)) (x ∷ xs)
least_put x [] xs to fro h = (
  Contains-In x (x ∷ xs) (inl refl),
  λ other i. elim (contained (x ∷ xs) other i) [
    | inl e ↦ subst (λ v. is_before v x ≡ false) e (itself x)
    | inr j ↦ absurd (fro other j)
  ],
)
least_put x (z ∷ zs) xs to fro h =
    elim (is_before z x) as (λ v. is_before z x ≡ v → IsLeastOf
    (find (λ _. true) (cond v (z ∷ put (λ k. k) x zs) (x ∷ z ∷ zs))) (x ∷ xs)) [
      | true ↦ λ lt. (
        Contains-In z (x ∷ xs) (inr (contained xs z h.0)),
        λ other i. elim (contained (x ∷ xs) other i) [
          | inl e ↦ subst (λ v. is_before v z ≡ false) e (before_not_after z x lt)
          | inr j ↦ h.1 other (Contains-In other xs j)
        ],
      )
      | false ↦ λ le. (
        Contains-In x (x ∷ xs) (inl refl),
        λ other i. elim (contained (x ∷ xs) other i) [
          | inl e ↦ subst (λ v. is_before v x ≡ false) e (itself x)
          | inr j ↦ not_before other z x (h.1 other (Contains-In other xs j)) le
        ],
      )
    ] refl

in_put : (x id : List ℕ) (zs : List (List ℕ)) → (id ≡ x) ⊎ In id zs → In id (put (λ k. k) x zs)
in_put x id [] i = elim i [ inl e ↦ inl (sym e) | inr j ↦ absurd j ]
in_put x id (z ∷ zs) i = elim (is_before z x) as (λ v. In id (cond v (z ∷ put (λ k. k) x zs) (x ∷ z ∷ zs))) [
  | true ↦ elim i [
    | inl e ↦ inr (in_put x id zs (inl e))
    | inr j ↦ elim j [ inl here ↦ inl here | inr later ↦ inr (in_put x id zs (inr later)) ]
  ]
  | false ↦ elim i [ inl e ↦ inl (sym e) | inr j ↦ inr j ]
]

of_put : (x id : List ℕ) (zs : List (List ℕ)) → In id (put (λ k. k) x zs) → (x ≡ id) ⊎ In id zs
of_put x id [] i = i
of_put x id (z ∷ zs) i = elim (is_before z x) as (λ v. In id (cond v (z ∷ put (λ k. k) x zs) (x ∷ z ∷ zs))
    → (x ≡ id)
    ⊎ In id (z ∷ zs)) [
      | true ↦ λ j. elim j [
        | inl here ↦ inr (inl here)
        | inr later ↦ elim (of_put x id zs later) [ inl e ↦ inl e | inr k ↦ inr (inr k) ]
      ]
      | false ↦ λ j. j
    ] i

to_order : (xs : List (List ℕ)) (id : List ℕ) → In id xs → In id (arranged (λ k. k) xs)
to_order [] id i = i
to_order (x ∷ xs) id i = in_put x id (arranged (λ k. k) xs) (elim i
    [ inl e ↦ inl (sym e) | inr j ↦ inr (to_order xs id j) ])

of_order : (xs : List (List ℕ)) (id : List ℕ) → In id (arranged (λ k. k) xs) → In id xs
of_order [] id i = i
of_order (x ∷ xs) id i = elim (of_put x id (arranged (λ k. k) xs) i)
    [ inl e ↦ inl e | inr j ↦ inr (of_order xs id j) ]

least_of_list : (xs : List (List ℕ)) → IsLeastOf (least xs) xs
least_of_list [] = λ id h. contained [] id h
least_of_list (x ∷ xs) = least_put x (arranged (λ k. k) xs) xs (of_order xs) (to_order xs) (least_of_list xs)

-- lists with the same elements have one least
one_least : (xs ys : List (List ℕ)) (a b : Option (List ℕ)) →
    ((id : List ℕ) → Contains xs id → Contains ys id)
    → ((id : List ℕ) → Contains ys id → Contains xs id) → IsLeastOf a xs → IsLeastOf b ys → a ≡ b
one_least xs ys None None to fro h g = refl
one_least xs ys None (Some k) to fro h g = absurd (h k (fro k g.0))
one_least xs ys (Some k) None to fro h g = absurd (g k (to k h.0))
one_least xs ys (Some j) (Some k) to fro h g = ap Some (neither_before j k (g.1 j (to j h.0)) (h.1 k (fro k g.0)))
  where
    neither_before : (m n : List ℕ) → is_before m n ≡ false → is_before n m ≡ false → m ≡ n
    neither_before m n a b = elim (bytes_eq m n) as (λ v. bytes_eq m n ≡ v → m ≡ n) [
      | true ↦ λ e. (bytes_eq-Decides m n).0 e
      | false ↦ λ e. absurd (true≢false (sym (before_other_way m n a e) ∙ b))
    ] refl

-- ---- packages and their holders

package_of : (ss : List Holder) (ps : List Package) (s : Holder) → AreHoldersOf ss ps → In s ss → (p : Package)
    × In p ps
    × IsHolderOf s p
package_of [] ps s h i = absurd i
package_of (t ∷ ts) [] s h i = absurd h
package_of (t ∷ ts) (p ∷ ps) s h i = elim i [
  | inl e ↦ (p, inl refl, subst (λ v. IsHolderOf v p) e h.0)
  | inr later ↦ let r : (q : Package) × In q ps × IsHolderOf s q =
      package_of ts ps s h.1 later in (r.0, inr r.1, r.2)
]

holder_of : (ss : List Holder) (ps : List Package) (p : Package) → AreHoldersOf ss ps → In p ps → (s : Holder)
    × In s ss
    × IsHolderOf s p
holder_of ss [] p h i = absurd i
holder_of [] (q ∷ ps) p h i = absurd h
holder_of (t ∷ ts) (q ∷ ps) p h i = elim i [
  | inl e ↦ (t, inl refl, subst (IsHolderOf t) e h.0)
  | inr later ↦ let r : (s : Holder) × In s ts × IsHolderOf s p = holder_of ts ps p h.1 later in (r.0, inr r.1, r.2)
]

-- ---- what additions say

said_same : (i : Item) (m : Moved) → bytes_eq (item_said m) (item_said (item_moved i)) ≡ names_as i m
said_same i m = keys_same m.size (size i.content) m.base i.identity (unwrap_or m.fingerprint []) (fingerprint i.content)

any_alike : {X : Type 0} (p q : X → Bool) → ((x : X) → p x ≡ q x) → (xs : List X)
    → list_any p xs ≡ list_any q xs
any_alike p q same xs = ap (λ t. list_any t xs) (λ i. λ x. same x i)

added_same : (ledger : List Receipt) (i : Item) → list_any (adds_item (item_said (item_moved i))) ledger
    ≡ is_unaltered ledger i
added_same ledger i = any_alike (adds_item (item_said (item_moved i)))
    (λ r. is_add r && list_any (names_as i) r.items) (λ r. ap (λ b. is_add r && b)
    (any_alike (λ m. bytes_eq (item_said m) (item_said (item_moved i))) (names_as i) (said_same i) r.items)) ledger

module _ (ledger : List Receipt) (holders : List Holder) (w : World) (seen : IsHeldWith ledger holders w)
    (added : BTreeSet (List ℕ)) (noted : (key : List ℕ) → contains (slice_cmp nat_cmp) added key
    ≡ list_any (adds_item key) ledger) where
  is_as_added : (i : Item) → contains (slice_cmp nat_cmp) added (item_said (item_moved i))
      ≡ is_unaltered (receipts_of w) i
  is_as_added i = noted (item_said (item_moved i)) ∙ added_same ledger i ∙ ap (λ rs. is_unaltered rs i) seen.whole

  altered_to : (id : List ℕ) → IsAlteredIn added holders id → Contains (altered w) id
  altered_to id (s, there, (m, here, (differs, named))) =
      let p : (p : Package) × In p w.packages × IsHolderOf s p =
      package_of holders w.packages s seen.held.packages (contained holders s there) in
      let i : (i : Item) × In i p.0.items × (item_moved i ≡ m) =
      In-of_map item_moved m p.0.items (subst (In m) p.2.items (contained s.items m here)) in
      let fact : not (is_unaltered (receipts_of w) i.0) ≡ true =
      ap not (sym (is_as_added i.0) ∙ ap (λ v. contains (slice_cmp nat_cmp) added (item_said v)) i.2
      ∙ differs) in
      Contains-In id (altered w) (subst (λ v. In v (altered w)) (ap (λ v. v.base) i.2 ∙ named)
      (In-map (λ x. x.identity) i.0 (flat_map (λ q. filter (λ x. not (is_unaltered (receipts_of w) x)) q.items)
      w.packages)
      (In-flat_map (λ q. filter (λ x. not (is_unaltered (receipts_of w) x)) q.items) p.0 i.0 w.packages p.1
      (In-filter (λ x. not (is_unaltered (receipts_of w) x)) i.0 p.0.items i.1 fact))))

  altered_fro : (id : List ℕ) → Contains (altered w) id → IsAlteredIn added holders id
  altered_fro id h =
      let i : (i : Item) × In i (flat_map (λ q. filter (λ x. not (is_unaltered (receipts_of w) x)) q.items)
      w.packages) × (i.identity ≡ id) = In-of_map (λ x. x.identity) id
      (flat_map (λ q. filter (λ x. not (is_unaltered (receipts_of w) x)) q.items) w.packages)
      (contained (altered w) id h) in
      let p = In-of_flat_map (λ q. filter (λ x. not (is_unaltered (receipts_of w) x)) q.items) i.0 w.packages i.1 in
      let t : In i.0 p.0.items × (not (is_unaltered (receipts_of w) i.0) ≡ true) =
      of_filter (λ x. not (is_unaltered (receipts_of w) x)) i.0 p.0.items p.2 in
      let s : (s : Holder) × In s holders × IsHolderOf s p.0 =
      holder_of holders w.packages p.0 seen.held.packages p.1 in (
        s.0,
        Contains-In s.0 holders s.1,
        (
          item_moved i.0,
          Contains-In (item_moved i.0) s.0.items
              (subst (In (item_moved i.0)) (sym s.2.items) (In-map item_moved i.0 p.0.items t.0)),
          (is_as_added i.0 ∙ not_true _ t.1, i.2),
        ),
      )

  pub least_altered_is : (ids : List (List ℕ)) (o : Option (List ℕ)) → Adds (IsAlteredIn added holders) [] ids
      → IsLeastOf o ids → least (altered w) ≡ o
  least_altered_is ids o all h = one_least (altered w) ids (least (altered w)) o
      (λ id a. all.whole id (altered_fro id a)) (λ id c. altered_to id
      (listed (IsAlteredIn added holders) ids all id c)) (least_of_list (altered w)) h
