-- Of views of a register's stores those of its packages are found, and no stray is.
use Rattle.std.specs.Prelude.{◌≡◌, ℕ, zero, suc, ◌+◌, ◌<◌, ◌≤◌, Bool, true, false, not}
use Rattle.std.specs.Prelude.{◌&&◌, ◌||◌, ◌==◌, nat_lt}
use Rattle.std.specs.Prelude.{List, [], filter, length, refl, Some, None, is_some, unwrap_or, MatchOption, pos}
use Rattle.std.specs.Prelude.{bytes_eq, int_le, int_lt}
use Rattle.std.proofs.Common.{sym, ap, subst, ◌∙◌, arith, rules, inl, inr}
use Rattle.std.proofs.lemmas.Bool.{true≢false, and_parts, and_from, false_from_ne_true, eq-eqb}
use Rattle.std.proofs.lemmas.Slice.Eq.{bytes_eq-Decides}
use Rattle.std.specs.List.{list_any}
use Rattle.std.specs.Option.{option_map_or}
use Rattle.sheet_types.specs.Matrix.{is_within}
use Rattle.sheet_types.specs.Texts.{uuid_text}
use Rattle.sheet_types.specs.Lines.{is_uuid}
use Rattle.sheet_types.specs.World.{World, Package, receipts_of, holdings, is_live}
use Rattle.sheet_types.specs.Custody.{is_split, is_merge, ends_at, after, is_open_among}
use Rattle.sheet_types.specs.Refuse.{greatest_depth}
use Rattle.sheet_types.specs.Register.{IsRegister, HasParent}
use Rattle.sheet_types.specs.Opening.{Claim, claim_of, claims_merge, is_open_claim}
use Rattle.uuid.proofs.TextLemmas.{by_index_length}
use Rattle.sheet_types.specs.declared.receipt.Receipt.{Receipt}
use Rattle.sheet_types.proofs.Basics.{bytes_eq_itself, not_true, or-true}
use Rattle.sheet_types.proofs.Same.{In, All-In, In-filter, In-map, In-of_map, In-flat_map, any_in, any_at}
use Rattle.sheet_types.proofs.LineReading.{same_uuid}
use Rattle.sheet_laws.specs.Laws.{StoreSight}
use Rattle.sheet_laws.proofs.Rounds as rounds
use Rattle.sheet_laws.proofs.Rounds.{any_of_taken}
use Rattle.sheet_laws.proofs.Shifting.{ends_at_is, ends_at_some}
use Rattle.opening_laws_model.specs.Beside.{is_root, is_loan_of, IsViewOfPackage, IsStrayView, AreViewsOfWorld}
use Rattle.opening_laws_model.proofs.Loans.{In-of_filter, in_ledger, lends_to, comes_from, undone_here, kept, Lent}
use Rattle.opening_laws_model.proofs.Loans.{lent_by}
use Rattle.opening_laws_model.proofs.Seen.{Seen, role, view_of}

-- a number is within itself
pub within_itself : (n : ℕ) → is_within (pos n) (pos n) (pos n) ≡ true
within_itself n = let le : int_le (pos n) (pos n) ≡ true = search rules in and_from (int_le (pos n) (pos n))
    (int_le (pos n) (pos n)) le le

-- the test of a loan, by the head of a view
pub loan_by : (w : World) (v : StoreSight) (p : Package) (c : Claim) → IsViewOfPackage w v p
    → is_loan_of c v ≡ (bytes_eq (uuid_text p.uuid) c.target && is_within c.seq c.seq (pos p.loan))
loan_by w v p c is = ap (λ o. option_map_or (λ h. bytes_eq (uuid_text h.uuid) c.target && is_within c.seq c.seq
    (pos h.loan)) o false) is.head

-- the view of a package is that of its split's loan
pub is_its_loan : (w : World) (v : StoreSight) (p : Package) (r : Receipt) → IsViewOfPackage w v p
    → r.target ≡ Some p.uuid → r.seq ≡ p.loan → is_loan_of (claim_of r) v ≡ true
is_its_loan w v p r is target number =
    loan_by w v p (claim_of r) is ∙ and_from (bytes_eq (uuid_text p.uuid) (claim_of r).target)
    (is_within (pos r.seq) (pos r.seq) (pos p.loan))
    (ap (λ o. bytes_eq (uuid_text p.uuid) (option_map_or uuid_text o [])) target
    ∙ bytes_eq_itself (uuid_text p.uuid))
    (ap (λ n. is_within (pos r.seq) (pos r.seq) (pos n)) (sym number) ∙ within_itself r.seq)

module _ (w : World) (register : IsRegister w) (views : List StoreSight) (of : AreViewsOfWorld views w) where
  abbrev pub ledger : List Receipt
  ledger = receipts_of w

  abbrev pub at : ℕ → StoreSight → Bool
  at k v = rounds.at StoreSight (λ v. v.head) (λ v. v.claims) (λ v. v.is_formed ≡ true) (λ v. v.is_tied ≡ true)
      (λ v. v.frame) (λ v. v.reads_as) views k v

  abbrev pub said : ℕ → List Claim
  said k = rounds.said StoreSight (λ v. v.head) (λ v. v.claims) (λ v. v.is_formed ≡ true)
      (λ v. v.is_tied ≡ true)
      (λ v. v.frame) (λ v. v.reads_as) views k

  pub grows : (j k : ℕ) (v : StoreSight) → j ≤ k → at j v ≡ true → at k v ≡ true
  grows = rounds.grows StoreSight (λ v. v.head) (λ v. v.claims) (λ v. v.is_formed ≡ true)
      (λ v. v.is_tied ≡ true)
      (λ v. v.frame) (λ v. v.reads_as) views

  -- a merge that ends the loan of a receipt
  abbrev ends_lent : Receipt → Receipt → Bool
  ends_lent r m = is_merge m && ends_at m.source (unwrap_or r.target [])

  -- a claim that ends the loan of another
  abbrev ends_claim : Claim → Claim → Bool
  ends_claim c m = claims_merge m && bytes_eq m.source c.target && int_lt c.seq m.seq

  -- what a package's view claims a receipt of it says
  pub claimed : (v : StoreSight) (s : Seen w views of v) (c : Claim) → In c v.claims → (r : Receipt)
      × In r s.package.receipts × (claim_of r ≡ c)
  claimed v s c i = In-of_map claim_of c s.package.receipts (subst (In c) s.is.claims i)

  pub claims_of : (v : StoreSight) (p : Package) (r : Receipt) → IsViewOfPackage w v p → In r p.receipts
      → In (claim_of r) v.claims
  claims_of v p r is i = subst (In (claim_of r)) (sym is.claims) (In-map claim_of r p.receipts i)

  -- ---- what is open by claims is open by the ledger

  pub open_here : (k : ℕ) (v : StoreSight) (p : Package) (r : Receipt) → In v views → at k v ≡ true
      → In p w.packages
      → IsViewOfPackage w v p → In r p.receipts
      → is_open_claim (said k) (claim_of r) ≡ true → is_open_among ledger r ≡ true
  open_here k v p r i found ip is j h =
      let tests : ((is_split r && nat_lt 0 (length (claim_of r).target)) ≡ true)
      × (not (list_any (ends_claim (claim_of r)) (said k)) ≡ true) =
      and_parts (is_split r && nat_lt 0 (length (claim_of r).target))
      (not (list_any (ends_claim (claim_of r)) (said k))) h in
      let split : is_split r ≡ true = (and_parts (is_split r) (nat_lt 0 (length (claim_of r).target)) tests.0).0 in
      let entered : In r ledger = in_ledger w register p r ip j in
      let child : (child : List ℕ) × (r.target ≡ Some child) × (is_uuid child ≡ true) =
      lends_to w register r entered split in
      let none : list_any (ends_lent r) (after r.seq ledger) ≡ false =
      false_from_ne_true (list_any (ends_lent r) (after r.seq ledger)) (λ some.
      let m : (m : Receipt) × In m (after r.seq ledger) × (ends_lent r m ≡ true) =
      any_at (ends_lent r) (after r.seq ledger) some in
      let later : In m.0 ledger × (nat_lt r.seq m.0.seq ≡ true) =
      In-of_filter (λ x. nat_lt r.seq x.seq) m.0 ledger m.1 in
      let both : (is_merge m.0 ≡ true) × (ends_at m.0.source (unwrap_or r.target []) ≡ true) =
      and_parts (is_merge m.0) (ends_at m.0.source (unwrap_or r.target [])) m.2 in
      let source : m.0.source ≡ Some child.0 = ends_at_is m.0.source (unwrap_or r.target []) both.1
      ∙ ap (λ o. Some (unwrap_or o [])) child.1 in
      let here : In m.0 p.receipts = undone_here w register p r m.0 child.0 ip j later.0 split both.0 child.1 source
      later.1 in
      let told : In (claim_of m.0) (said k) = In-flat_map (λ x. x.claims) v (claim_of m.0) (filter (at k) views)
      (In-filter (at k) v views i found) (claims_of v p m.0 is here) in
      let texts : bytes_eq (claim_of m.0).source (claim_of r).target ≡ true =
      ap (λ o. bytes_eq (option_map_or uuid_text o []) (claim_of r).target) source
      ∙ ap (λ o. bytes_eq (uuid_text child.0) (option_map_or uuid_text o [])) child.1
      ∙ bytes_eq_itself (uuid_text child.0) in
      let ended : ends_claim (claim_of r) (claim_of m.0) ≡ true =
      and_from (claims_merge (claim_of m.0) && bytes_eq (claim_of m.0).source (claim_of r).target)
      (int_lt (pos r.seq) (pos m.0.seq))
      (and_from (is_merge m.0) (bytes_eq (claim_of m.0).source (claim_of r).target) both.0 texts) later.1 in
      true≢false (sym (any_in (ends_claim (claim_of r)) (claim_of m.0) (said k) told ended)
      ∙ not_true (list_any (ends_claim (claim_of r)) (said k)) tests.1)) in
      and_from (is_split r && is_some r.target) (not (list_any (ends_lent r) (after r.seq ledger)))
      (and_from (is_split r) (is_some r.target) split (ap is_some child.1)) (ap not none)

  -- ---- no stray is found

  pub never : (n k : ℕ) (v : StoreSight) → k < n → In v views → IsStrayView w v → at k v ≡ true → ⊥
  never zero k v lt i stray h = omega (arith, lt)
  never (suc n) k v lt i stray h =
      elim (rounds.origin StoreSight (λ v. v.head) (λ v. v.claims) (λ v. v.is_formed ≡ true)
      (λ v. v.is_tied ≡ true)
      (λ v. v.frame) (λ v. v.reads_as) views k v h) [
        | inl root ↦ true≢false (sym root ∙ stray.no_root)
        | inr o ↦ elim (role w views of o.2 o.3) [
          | inl s ↦
              let r : (r : Receipt) × In r s.package.receipts × (claim_of r ≡ o.5) = claimed o.2 s o.5 o.6 in
              let is_open : is_open_among ledger r.0 ≡ true =
              open_here o.0 o.2 s.package r.0 o.3 o.4 s.live s.is r.1
              (subst (λ c. is_open_claim (said o.0) c ≡ true) (sym r.2) o.8) in
              let unnamed : is_loan_of (claim_of r.0) v ≡ false =
              All-In (λ x. is_open_among ledger x ≡ true → is_loan_of (claim_of x) v ≡ false) r.0 ledger
              stray.unnamed (in_ledger w register s.package r.0 s.live r.1) is_open in
              true≢false (sym o.7 ∙ ap (λ c. is_loan_of c v) (sym r.2) ∙ unnamed)
          | inr other ↦ never n o.0 o.2 (omega (arith, o.1, lt)) o.3 other o.4
        ]
      ]

  pub stray_not_found : (k : ℕ) (v : StoreSight) → In v views → IsStrayView w v → at k v ≡ false
  stray_not_found k v i stray = false_from_ne_true (at k v) (never (suc k) k v (omega arith) i stray)

  -- a view that is found is that of a package
  pub found_seen : (k : ℕ) (v : StoreSight) → In v views → at k v ≡ true → Seen w views of v
  found_seen k v i h = elim (role w views of v i) [
    | inl s ↦ s
    | inr stray
        ↦ absurd (never (suc k) k v (omega arith) i stray h)
  ]

  -- ---- what is open by the ledger is open by claims

  pub open_claimed : (k : ℕ) (r : Receipt) → In r ledger → is_open_among ledger r ≡ true
      → is_open_claim (said k) (claim_of r) ≡ true
  open_claimed k r entered h =
      let tests : ((is_split r && is_some r.target) ≡ true) ×
      (not (list_any (ends_lent r) (after r.seq ledger)) ≡ true) =
      and_parts (is_split r && is_some r.target) (not (list_any (ends_lent r) (after r.seq ledger))) h in
      let split : is_split r ≡ true = (and_parts (is_split r) (is_some r.target) tests.0).0 in
      let child : (child : List ℕ) × (r.target ≡ Some child) × (is_uuid child ≡ true) =
      lends_to w register r entered split in
      let long : nat_lt 0 (length (claim_of r).target) ≡ true =
      ap (λ o. nat_lt 0 (length (option_map_or uuid_text o []))) child.1
      ∙ ap (nat_lt 0) (by_index_length 36 _) in
      let none : list_any (ends_claim (claim_of r)) (said k) ≡ false =
      false_from_ne_true (list_any (ends_claim (claim_of r)) (said k)) (λ some.
      let f = any_of_taken (λ x. x.claims) (at k) (ends_claim (claim_of r)) views some in
      let s : Seen w views of f.0 = found_seen k f.0 f.1 f.2 in
      let m : (m : Receipt) × In m s.package.receipts × (claim_of m ≡ f.3) = claimed f.0 s f.3 f.4 in
      let ended : ((claims_merge (claim_of m.0) && bytes_eq (claim_of m.0).source (claim_of r).target) ≡ true)
      × (int_lt (pos r.seq) (pos m.0.seq) ≡ true) =
      and_parts (claims_merge (claim_of m.0) && bytes_eq (claim_of m.0).source (claim_of r).target)
      (int_lt (pos r.seq) (pos m.0.seq)) (subst (λ c. ends_claim (claim_of r) c ≡ true) (sym m.2) f.5) in
      let both : (is_merge m.0 ≡ true) × (bytes_eq (claim_of m.0).source (claim_of r).target ≡ true) =
      and_parts (is_merge m.0) (bytes_eq (claim_of m.0).source (claim_of r).target) ended.0 in
      let there : In m.0 ledger = in_ledger w register s.package m.0 s.live m.1 in
      let source : (c : List ℕ) × (m.0.source ≡ Some c) × (is_uuid c ≡ true) =
      comes_from w register m.0 there both.0 in
      let texts : uuid_text source.0 ≡ uuid_text child.0 = ap (λ o. option_map_or uuid_text o []) (sym source.1)
      ∙ (bytes_eq-Decides (claim_of m.0).source (claim_of r).target).0 both.1
      ∙ ap (λ o. option_map_or uuid_text o []) child.1 in
      let same : source.0 ≡ unwrap_or r.target [] = same_uuid source.0 child.0 source.2 child.2 texts
      ∙ sym (ap (λ o. unwrap_or o []) child.1) in
      let undone : list_any (ends_lent r) (after r.seq ledger) ≡ true =
      any_in (ends_lent r) m.0 (after r.seq ledger) (In-filter (λ x. nat_lt r.seq x.seq) m.0 ledger there
      ended.1)
      (and_from (is_merge m.0) (ends_at m.0.source (unwrap_or r.target [])) both.0
      (ends_at_some m.0.source (unwrap_or r.target []) (source.1 ∙ ap Some same))) in
      true≢false (sym undone ∙ not_true (list_any (ends_lent r) (after r.seq ledger)) tests.1)) in
      and_from (is_split r && nat_lt 0 (length (claim_of r).target))
      (not (list_any (ends_claim (claim_of r)) (said k)))
      (and_from (is_split r) (nat_lt 0 (length (claim_of r).target)) split long) (ap not none)

  -- ---- the views of all packages are found

  rooted_by : (v : StoreSight) (p : Package) → IsViewOfPackage w v p → is_root v ≡ (p.depth == 0)
  rooted_by v p is = ap (λ o. option_map_or (λ h. h.depth == 0) o false) is.head

  -- a package without parent is an archive
  archive_depth : (p : Package) → HasParent w p → p.parent ≡ None → p.depth ≡ 0
  archive_depth p h none = (subst (λ o. MatchOption o ((p.depth ≡ 0) × (p.loan ≡ 0))
      (λ x. (is_live w x ≡ true) × (p.depth ≡ (holdings w x).depth + 1) × (p.depth ≤ greatest_depth))) none
      h).0

  -- the view of a package is found where that of its parent is
  found_by : (p : Package) (v : StoreSight) → In p w.packages → In v views → IsViewOfPackage w v p
      → ((l : Lent w register p) → at (length views) (view_of w views of l.parent l.live).0 ≡ true)
      → at (length views) v ≡ true
  found_by p v ip iv is above =
      elim p.parent as (λ o. p.parent ≡ o → at (length views) v ≡ true) [
        | None ↦ λ none. grows 0 (length views) v (omega arith)
            (rooted_by v p is ∙ eq-eqb p.depth 0 (archive_depth p (kept w register p ip).parent none))
        | Some u ↦ λ some.
            let l : Lent w register p = lent_by w register p u ip some in
            let pv : (x : StoreSight) × In x views × IsViewOfPackage w x l.parent =
            view_of w views of l.parent l.live in
            let told : In (claim_of l.receipt) (said (length views)) =
            In-flat_map (λ x. x.claims) pv.0 (claim_of l.receipt) (filter (at (length views)) views)
            (In-filter (at (length views)) pv.0 views pv.1 (above l))
            (claims_of pv.0 l.parent l.receipt pv.2 l.stands) in
            let is_open : is_open_claim (said (length views)) (claim_of l.receipt) ≡ true =
            open_claimed (length views) l.receipt (in_ledger w register l.parent l.receipt l.live l.stands)
            l.is_open in
            let made : list_any (λ c. is_loan_of c v && is_open_claim (said (length views)) c) (said (length views))
            ≡ true =
            any_in (λ c. is_loan_of c v && is_open_claim (said (length views)) c) (claim_of l.receipt)
            (said (length views)) told
            (and_from (is_loan_of (claim_of l.receipt) v) (is_open_claim (said (length views)) (claim_of l.receipt))
            (is_its_loan w v p l.receipt is l.target l.number) is_open) in
            sym (All-In (λ x. at (suc (length views)) x ≡ at (length views) x) v views
            (rounds.all_found StoreSight (λ v. v.head) (λ v. v.claims) (λ v. v.is_formed ≡ true)
            (λ v. v.is_tied ≡ true) (λ v. v.frame) (λ v. v.reads_as) views) iv)
            ∙ ap (λ b. at (length views) v || b) made ∙ or-true (at (length views) v)
      ] refl

  found_below : (n : ℕ) (p : Package) (v : StoreSight) → p.depth ≤ n → In p w.packages → In v views
      → IsViewOfPackage w v p → at (length views) v ≡ true
  found_below zero p v le ip iv is = found_by p v ip iv is (λ l. absurd (omega (arith, le, l.depth)))
  found_below (suc n) p v le ip iv is = found_by p v ip iv is (λ l.
      let pv : (x : StoreSight) × In x views × IsViewOfPackage w x l.parent = view_of w views of l.parent l.live in
      found_below n l.parent pv.0 (omega (arith, le, l.depth)) l.live pv.1 pv.2)

  pub member_found : (p : Package) (v : StoreSight) → In p w.packages → In v views → IsViewOfPackage w v p
      → at (length views) v ≡ true
  member_found p v ip iv is = found_below p.depth p v (omega arith) ip iv is
