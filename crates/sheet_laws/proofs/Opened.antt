-- A world that a list of stores stands for is that of a register.
use Rattle.std.specs.Prelude.{◌≡◌, ◌⊎◌, ℕ, suc, ◌+◌, ◌≤◌, ◌==◌, nat_le, Bool, true, false}
use Rattle.std.specs.Prelude.{cond, not, ◌&&◌, ◌||◌, List, [], ◌∷◌, ◌++◌, map, filter, find, length}
use Rattle.std.specs.Prelude.{refl, Option, Some, None, is_some, is_none, unwrap_or, MatchOption, count_by, flat_map}
use Rattle.std.specs.Prelude.{nat_lt, bytes_eq, pos, int_lt}
use Rattle.std.proofs.Common.{sym, ap, subst, ◌∙◌, arith, inl, inr}
use Rattle.std.proofs.lemmas.Bool.{true≢false, false≢true, and_parts, and_from, false_from_ne_true}
use Rattle.std.proofs.lemmas.Bool.{true_from_ne_false, eq-eqb}
use Rattle.std.proofs.lemmas.Bool.Decides.{nat_tests}
use Rattle.std.proofs.lemmas.Slice.Eq.{bytes_eq-Decides}
use Rattle.std.specs.List.{list_any, AllByRecursion}
use Rattle.std.specs.Option.{option_map_or}
use Rattle.sheet_types.specs.Ordered.{IsArranged}
use Rattle.sheet_types.specs.Matrix.{is_within}
use Rattle.sheet_types.specs.Texts.{Entry, Adds, Deletes, Links, Unlinks, Splits, Merges, uuid_text}
use Rattle.sheet_types.specs.Lines.{is_uuid, is_rect, is_number, is_splitting, is_merging}
use Rattle.sheet_types.specs.World.{World, Package, package_key, receipt_key, receipts_of, holdings, no_package}
use Rattle.sheet_types.specs.World.{is_live}
use Rattle.sheet_types.specs.Custody.{is_split, is_merge, ends_at, after, is_open_among}
use Rattle.sheet_types.specs.Refuse.{is_archive, greatest_depth}
use Rattle.sheet_types.specs.Balance.{Balanced, IsLedger, IsReceiptOf, archive_of, altered}
use Rattle.sheet_types.specs.Register.{IsRegister, IsKeptPackage, HasParent}
use Rattle.sheet_types.specs.Opening.{Head, Claim, head_of, claim_of, claims_split, claims_merge, is_open_claim}
use Rattle.sheet_types.specs.Opening.{IsBelow, is_root, is_loan_of, IsOpenSplitOf, world_read, Stands, IsReading}
use Rattle.uuid.proofs.TextLemmas.{by_index_length}
use Rattle.sheet_types.specs.declared.frame.Frame.{Frame}
use Rattle.sheet_types.specs.declared.receipt.Receipt.{Receipt}
use Rattle.sheet_types.proofs.Basics.{bytes_eq_itself, not_true, not_false, or-true}
use Rattle.sheet_types.proofs.Every.{All-weaker, All-both, All-filter, All-taken, All-map, All-of_map, none_pass}
use Rattle.sheet_types.proofs.Sums.{sum_by-map, sum_by-same, sum_by-same_all, sum_by-filter, filter_less}
use Rattle.sheet_types.proofs.Sums.{count_le_all, any_none}
use Rattle.sheet_types.proofs.Found.{found, All-found}
use Rattle.sheet_types.proofs.Order.{All-arranged, All-of_arranged, sum_by-arranged, list_any-arranged, with_key}
use Rattle.sheet_types.proofs.Order.{arranged_counts}
use Rattle.sheet_types.proofs.Same.{In, In-all, All-In, In-filter, In-map, In-of_map, In-flat_map, any_in, any_at}
use Rattle.sheet_types.proofs.Same.{two_are_one, Contains-In}
use Rattle.sheet_types.proofs.LineReading.{line-entry_from, same_uuid}
use Rattle.sheet_laws.proofs.Packages.{at_uuid, each_found, stand_flat}
use Rattle.sheet_laws.proofs.Shifting.{each_stands, ends_at_some}
use Rattle.sheet_laws.proofs.Ledger.{by_entry}
use Rattle.sheet_laws.proofs.Facts.{ledger_entered}
use Rattle.sheet_laws.proofs.Merging.{lent_to, lent_once}
use Rattle.sheet_laws.proofs.Rounds.{at, said, grows, first_round, open_falls, origin, all_found, any_of_taken}

-- ---- receipts of splits and of merges

-- a split has a target, which is a UUID
split_target : (r : Receipt) (e : Entry) → IsReceiptOf r e → is_split r ≡ true → (child : List ℕ)
    × (r.target ≡ Some child) × (is_uuid child ≡ true)
split_target r (Splits p child mode rect) of split =
    let fit : (is_uuid p && is_uuid child && is_rect rect) ≡ true =
    (line-entry_from r.line (Splits p child mode rect) of.says).0 in (
      child,
      of.comes_to,
      (and_parts (is_uuid p) (is_uuid child)
          (and_parts (is_uuid p && is_uuid child) (is_rect rect) fit).0).1,
    )
split_target r (Adds p identity kind size digest) of split =
    absurd (false≢true (sym (by_entry is_splitting r (Adds p identity kind size digest) of.says) ∙ split))
split_target r (Deletes p identity) of split = absurd (false≢true
    (sym (by_entry is_splitting r (Deletes p identity) of.says) ∙ split))
split_target r (Links p mapping base other) of split = absurd
    (false≢true (sym (by_entry is_splitting r (Links p mapping base other) of.says) ∙ split))
split_target r (Unlinks p mapping base other) of split = absurd
    (false≢true (sym (by_entry is_splitting r (Unlinks p mapping base other) of.says) ∙ split))
split_target r (Merges child into ticket) of split = absurd (false≢true
    (sym (by_entry is_splitting r (Merges child into ticket) of.says) ∙ split))

-- a merge has a source, which is a UUID
merge_source : (r : Receipt) (e : Entry) → IsReceiptOf r e → is_merge r ≡ true → (child : List ℕ)
    × (r.source ≡ Some child) × (is_uuid child ≡ true)
merge_source r (Merges child into ticket) of merge =
    let fit : (is_uuid child && is_uuid into && is_number ticket) ≡ true =
    (line-entry_from r.line (Merges child into ticket) of.says).0 in (
      child,
      of.leaves,
      (and_parts (is_uuid child) (is_uuid into)
          (and_parts (is_uuid child && is_uuid into) (is_number ticket) fit).0).0,
    )
merge_source r (Adds p identity kind size digest) of merge =
    absurd (false≢true (sym (by_entry is_merging r (Adds p identity kind size digest) of.says) ∙ merge))
merge_source r (Deletes p identity) of merge = absurd (false≢true
    (sym (by_entry is_merging r (Deletes p identity) of.says) ∙ merge))
merge_source r (Links p mapping base other) of merge = absurd
    (false≢true (sym (by_entry is_merging r (Links p mapping base other) of.says) ∙ merge))
merge_source r (Unlinks p mapping base other) of merge = absurd
    (false≢true (sym (by_entry is_merging r (Unlinks p mapping base other) of.says) ∙ merge))
merge_source r (Splits p child mode rect) of merge = absurd (false≢true
    (sym (by_entry is_merging r (Splits p child mode rect) of.says) ∙ merge))

-- no split of a sound ledger lends under the archive's UUID
never_archive : (archive : List ℕ) (past rs : List Receipt) → IsLedger archive past rs
    → AllByRecursion (λ r. is_split r ≡ true → ends_at r.target archive ≡ false) rs
never_archive archive past [] h = tt
never_archive archive past (r ∷ rs) h = (
  (λ split. (h.0.new_loan split).1),
  never_archive archive
      (past ++ r ∷ []) rs h.1,
)

-- what a depth says of a parent
no_parent : (o : Option (List ℕ)) (depth loan : ℕ) → MatchOption o ((depth ≡ 0) × (loan ≡ 0))
    (λ q. ((depth == 0) ≡ false) × (depth ≤ greatest_depth)) → is_none o ≡ (depth == 0)
no_parent None depth loan h = sym (eq-eqb depth 0 h.0)
no_parent (Some q) depth loan h = sym h.0

root_parent : (o : Option (List ℕ)) (depth loan : ℕ) (P : List ℕ → Type 0)
    → MatchOption o ((depth ≡ 0) × (loan ≡ 0)) (λ q. ((depth == 0) ≡ false) × (depth ≤ greatest_depth))
    → (depth == 0) ≡ true → MatchOption o ((depth ≡ 0) × (loan ≡ 0)) P
root_parent None depth loan P h root = h
root_parent (Some q) depth loan P h root = absurd (true≢false (sym root ∙ h.0))

at_most_one : (n : ℕ) → nat_le 2 n ≡ false → n ≤ 1
at_most_one n h = grind (arith, nat_tests)

module _ (Store : Type 0) (head : Store → Option Head) (claims : Store → List Claim) (IsFormed : Store → Type 0)
    (IsTied : Store → Type 0) (frame_of : Store → Frame) (read : Store → Package) (stores : List Store)
    (w : World) (stands : Stands Store head claims IsFormed IsTied frame_of read stores w)
    (readings : AllByRecursion (λ s. IsFormed s → IsTied s → IsReading Store head claims IsFormed IsTied frame_of
    read s) stores) where
  abbrev Reads : Store → Type 0
  Reads s = IsReading Store head claims IsFormed IsTied frame_of read s

  abbrev rooted : Store → Bool
  rooted s = is_root Store head claims IsFormed IsTied frame_of read s

  -- found in the end
  abbrev ends : Store → Bool
  ends s = at Store head claims IsFormed IsTied frame_of read stores (length stores) s

  abbrev lives : List Store
  lives = filter ends stores

  abbrev makes : Claim → Store → Bool
  makes c s = is_loan_of Store head claims IsFormed IsTied frame_of read c s

  abbrev told : ℕ → List Claim
  told k = said Store head claims IsFormed IsTied frame_of read stores k

  abbrev root : Store
  root = stands.read_as.0

  -- the world as it is read
  abbrev v : World
  v = world_read Store head claims IsFormed IsTied frame_of read stores root

  balanced : Balanced v
  balanced = subst Balanced stands.read_as.2 stands.balanced

  abbrev ledger : List Receipt
  ledger = receipts_of v

  each_reads : AllByRecursion Reads lives
  each_reads = All-both IsTied (λ s. IsTied s → Reads s) Reads (λ s t f. f t) lives stands.in_order.tied
      (All-both IsFormed (λ s. IsFormed s → IsTied s → Reads s) (λ s. IsTied s → Reads s) (λ s t f. f t)
      lives stands.in_order.formed (All-filter (λ s. IsFormed s → IsTied s → Reads s) ends stores readings))

  reads_at : (s : Store) → In s lives → Reads s
  reads_at s i = All-In Reads s lives each_reads i

  live_in : (s : Store) → In s lives → In s stores × (ends s ≡ true)
  live_in s i = All-In (λ x. In x stores × (ends x ≡ true)) s lives
      (All-taken (λ x. In x stores × (ends x ≡ true)) ends stores
      (All-weaker (λ x. In x stores) (λ x. ends x ≡ true → In x stores × (ends x ≡ true)) (λ x j e. (j, e))
      stores (In-all stores))) i

  -- ---- receipts of the live stores, and of the world

  each_receipt : (P : Receipt → Type 0) → AllByRecursion P ledger
      → AllByRecursion (λ s. AllByRecursion P (read s).receipts) lives
  each_receipt P h = All-of_map (λ x. AllByRecursion P x.receipts) read lives
      (All-of_arranged package_key (λ x. AllByRecursion P x.receipts) (map read lives)
      (each_stands P v h))

  all_receipts : (P : Receipt → Type 0) → AllByRecursion (λ s. AllByRecursion P (read s).receipts) lives
      → AllByRecursion P ledger
  all_receipts P h = All-arranged receipt_key P (flat_map (λ x. x.receipts) v.packages)
      (stand_flat P v.packages (All-arranged package_key (λ x. AllByRecursion P x.receipts) (map read lives)
      (All-map (λ x. AllByRecursion P x.receipts) read lives h)))

  in_ledger : (s : Store) (r : Receipt) → In s lives → In r (read s).receipts → In r ledger
  in_ledger s r i j = All-In (λ x. In x ledger) r (read s).receipts
      (All-In (λ x. AllByRecursion (λ y. In y ledger) (read x).receipts) s lives
      (each_receipt (λ x. In x ledger) (In-all ledger)) i) j

  entered : (r : Receipt) → In r ledger → (e : Entry) × IsReceiptOf r e
  entered r i = All-In (λ x. (e : Entry) × IsReceiptOf x e) r ledger
      (ledger_entered (archive_of v) [] ledger balanced.ledger) i

  -- what a live store claims is what a receipt of its package says
  claimed_by : (s : Store) (c : Claim) → In s lives → In c (claims s) → (r : Receipt) × In r ledger
      × (claim_of r ≡ c)
  claimed_by s c i j =
      let r : (r : Receipt) × In r (read s).receipts × (claim_of r ≡ c) =
      In-of_map claim_of c (read s).receipts (subst (In c) (reads_at s i).claimed j) in
      (r.0, in_ledger s r.0 i r.1, r.2)

  -- ---- roots and loans

  root_in : In root stores × (rooted root ≡ true)
  root_in = All-found (λ s. In s stores) rooted root stores stands.read_as.1 (In-all stores)

  root_live : In root lives
  root_live = In-filter ends root stores root_in.0 (grows Store head claims IsFormed IsTied frame_of read stores 0
      (length stores) root (omega arith) root_in.1)

  the_root : (s : Store) → In s lives → rooted s ≡ true → s ≡ root
  the_root s i h = two_are_one rooted s root stores (omega (arith, stands.in_order.one_archive)) (live_in s i).0
      root_in.0 h root_in.1

  rooted_depth : (s : Store) → In s lives → rooted s ≡ ((read s).depth == 0)
  rooted_depth s i = ap (λ o. option_map_or (λ h. h.depth == 0) o false) (reads_at s i).heads

  archive_rooted : (s : Store) → In s lives → is_archive (read s) ≡ rooted s
  archive_rooted s i = no_parent (read s).parent (read s).depth (read s).loan (reads_at s i).level
      ∙ sym (rooted_depth s i)

  -- the loan of a claim has its target's UUID
  loan_uuid : (s : Store) (c : Claim) → In s lives → makes c s ≡ true → uuid_text (read s).uuid ≡ c.target
  loan_uuid s c i h =
      let both : (bytes_eq (uuid_text (read s).uuid) c.target ≡ true)
      × (is_within c.seq c.seq (pos (read s).loan) ≡ true) =
      and_parts (bytes_eq (uuid_text (read s).uuid) c.target) (is_within c.seq c.seq (pos (read s).loan))
      (sym (ap (λ o. option_map_or (λ x. bytes_eq (uuid_text x.uuid) c.target && is_within c.seq c.seq
      (pos x.loan)) o false) (reads_at s i).heads) ∙ h) in
      (bytes_eq-Decides (uuid_text (read s).uuid) c.target).0 both.0

  -- a live store that is no archive: the loan of an open split of a live store, by a receipt of the ledger
  record Lent (s : Store) : Type 0 where
    parent : Store
    parent_live : In parent lives
    claim : Claim
    loan : makes claim s ≡ true
    open' : IsOpenSplitOf Store head claims IsFormed IsTied frame_of read stores parent claim
    receipt : Receipt
    entered_as : In receipt ledger
    says : claim_of receipt ≡ claim
    lends : lent_to (read s).uuid receipt ≡ true

  -- the target of an open claim that a receipt says
  claim_split : (k : ℕ) (r : Receipt) (c : Claim) → claim_of r ≡ c → is_open_claim (told k) c ≡ true
      → is_split r ≡ true
  claim_split k r c e h = subst (λ x. claims_split x ≡ true) (sym e)
      (and_parts (claims_split c) (nat_lt 0 (length c.target))
      (and_parts (claims_split c && nat_lt 0 (length c.target)) _ h).0).0

  lent_by : (s : Store) → In s lives → (rooted s ≡ true) ⊎ Lent s
  lent_by s i = elim (origin Store head claims IsFormed IsTied frame_of read stores (length stores) s (live_in s i).1) [
    | inl h ↦ inl h
    | inr o ↦
        let parent_ends : ends o.2 ≡ true = grows Store head claims IsFormed IsTied frame_of read stores o.0
        (length stores) o.2 (omega (arith, o.1)) o.4 in
        let parent_live : In o.2 lives = In-filter ends o.2 stores o.3 parent_ends in
        let first = first_round Store head claims IsFormed IsTied frame_of read stores o.0 o.2 o.4 in
        let r : (r : Receipt) × In r ledger × (claim_of r ≡ o.5) = claimed_by o.2 o.5 parent_live o.6 in
        let split : is_split r.0 ≡ true = claim_split o.0 r.0 o.5 r.2 o.8 in
        let e : (e : Entry) × IsReceiptOf r.0 e = entered r.0 r.1 in
        let t : (child : List ℕ) × (r.0.target ≡ Some child) × (is_uuid child ≡ true) =
        split_target r.0 e.0 e.1 split in
        let texts : uuid_text t.0 ≡ uuid_text (read s).uuid =
        ap (λ z. option_map_or uuid_text z []) (sym t.1) ∙ ap (λ c. c.target) r.2
        ∙ sym (loan_uuid s o.5 i o.7) in
        let uuid : t.0 ≡ (read s).uuid = same_uuid t.0 (read s).uuid t.2 (reads_at s i).uuid texts in
        inr (record {
          parent = o.2;
          parent_live = parent_live;
          claim = o.5;
          loan = o.7;
          open' = (
            first.0,
            first.2,
            Contains-In o.5 (claims o.2) o.6,
            open_falls Store head claims IsFormed IsTied
                frame_of read stores first.0 o.0 o.5 first.1 o.8,
          );
          receipt = r.0;
          entered_as = r.1;
          says = r.2;
          lends = and_from (is_split r.0) (ends_at r.0.target (read s).uuid) split
              (ends_at_some r.0.target (read s).uuid (t.1 ∙ ap Some uuid));
        })
  ]

  -- ---- one package for each UUID

  archive_uuid : archive_of v ≡ (read root).uuid
  archive_uuid =
      let there : list_any is_archive v.packages ≡ true = list_any-arranged package_key is_archive (map read lives)
      ∙ any_in is_archive (read root) (map read lives) (In-map read root lives root_live)
      (archive_rooted root root_live ∙ root_in.1) in
      let f : (x : Package) × (find is_archive v.packages ≡ Some x) = found is_archive v.packages there in
      let Only : Package → Type 0 = λ x. is_archive x ≡ true → x ≡ read root in
      let only : AllByRecursion Only v.packages = All-arranged package_key Only (map read lives)
      (All-map Only read lives
      (All-weaker (λ s. In s lives) (λ s. Only (read s)) (λ s i a. ap read
      (the_root s i (sym (archive_rooted s i) ∙ a))) lives (In-all lives))) in
      let is : Only f.0 × (is_archive f.0 ≡ true) = All-found Only is_archive f.0 v.packages f.1 only in
      ap (λ o. option_map_or (λ x. x.uuid) o []) f.1 ∙ ap (λ x. x.uuid) (is.0 is.1)

  -- a live store of a loan's UUID is that loan's
  same_loan : (k : List ℕ) (s z : Store) → In z lives → (read s).uuid ≡ k → (read z).uuid ≡ k
      → (l : Lent s) → makes l.claim z ≡ true
  same_loan k s z j es ez l = elim (lent_by z j) [
    | inl rootz ↦
        let lends : (is_split l.receipt ≡ true) × (ends_at l.receipt.target (read s).uuid ≡ true) =
        and_parts (is_split l.receipt) (ends_at l.receipt.target (read s).uuid) l.lends in
        let never : ends_at l.receipt.target (archive_of v) ≡ false =
        All-In (λ r. is_split r ≡ true → ends_at r.target (archive_of v) ≡ false) l.receipt ledger
        (never_archive (archive_of v) [] ledger balanced.ledger) l.entered_as lends.0 in
        let same : archive_of v ≡ (read s).uuid = archive_uuid
        ∙ ap (λ x. (read x).uuid) (sym (the_root z j rootz)) ∙ ez ∙ sym es in
        absurd (true≢false (sym lends.1 ∙ ap (ends_at l.receipt.target) (sym same) ∙ never))
    | inr m ↦
        let one : m.receipt ≡ l.receipt = two_are_one (lent_to k) m.receipt l.receipt ledger
        (lent_once v k balanced.ledger) m.entered_as l.entered_as
        (subst (λ u. lent_to u m.receipt ≡ true) ez m.lends)
        (subst (λ u. lent_to u l.receipt ≡ true) es l.lends) in
        subst (λ c. makes c z ≡ true) (sym m.says ∙ ap claim_of one ∙ l.says) m.loan
  ]

  -- a loan is there once
  loan_once : (s : Store) (l : Lent s) → In s lives → count_by (makes l.claim) stores ≤ 1
  loan_once s l i = at_most_one (count_by (makes l.claim) stores)
      (false_from_ne_true (nat_le 2 (count_by (makes l.claim) stores)) (λ twice.
      stands.in_order.no_copies (read s).uuid (
        l.parent,
        l.claim,
        Contains-In l.parent stores
            (live_in l.parent l.parent_live).0,
        l.open',
        (reads_at s i).uuid,
        sym (loan_uuid s l.claim i l.loan),
        twice,
      )))

  abbrev of_uuid : List ℕ → Store → Bool
  of_uuid k s = bytes_eq (read s).uuid k

  one_of_uuid : (k : List ℕ) → count_by (of_uuid k) lives ≤ 1
  one_of_uuid k =
      elim (list_any (λ s. of_uuid k s && not (rooted s)) lives) as
      (λ b. list_any (λ s. of_uuid k s && not (rooted s)) lives ≡ b → count_by (of_uuid k) lives ≤ 1) [
        | true ↦ λ some.
            let s : (s : Store) × In s lives × ((of_uuid k s && not (rooted s)) ≡ true) =
            any_at (λ s. of_uuid k s && not (rooted s)) lives some in
            let tests : (of_uuid k s.0 ≡ true) × (not (rooted s.0) ≡ true) =
            and_parts (of_uuid k s.0) (not (rooted s.0)) s.2 in
            elim (lent_by s.0 s.1) [
              | inl h ↦ absurd (true≢false (sym h ∙ not_true (rooted s.0) tests.1))
              | inr l ↦
                  let less : count_by (of_uuid k) lives ≤ count_by (makes l.claim) lives =
                  count_le_all (of_uuid k) (makes l.claim) lives
                  (All-weaker (λ z. In z lives) (λ z. of_uuid k z ≡ true → makes l.claim z ≡ true)
                  (λ z j same. same_loan k s.0 z j ((bytes_eq-Decides (read s.0).uuid k).0 tests.0)
                  ((bytes_eq-Decides (read z).uuid k).0 same) l) lives (In-all lives)) in
                  omega (arith, less, filter_less (λ z. cond (makes l.claim z) 1 0) ends stores, loan_once s.0 l s.1)
            ]
        | false ↦ λ none.
            let each : AllByRecursion (λ s. (of_uuid k s && not (rooted s)) ≡ false) lives =
            none_pass (λ s. of_uuid k s && not (rooted s)) lives none in
            let less : count_by (of_uuid k) lives ≤ count_by rooted lives = count_le_all (of_uuid k) rooted lives
            (All-weaker (λ s. (of_uuid k s && not (rooted s)) ≡ false)
            (λ s. of_uuid k s ≡ true → rooted s ≡ true) (λ s n same. not_false (rooted s)
            (sym (ap (λ b. b && not (rooted s)) same) ∙ n)) lives each) in
            omega (arith, less, filter_less (λ z. cond (rooted z) 1 0) ends stores, stands.in_order.one_archive)
      ] refl

  distinct : IsArranged package_key v.packages
  distinct = arranged_counts package_key (map read lives) (λ k. omega
      (arith, sum_by-map (λ x. cond (with_key package_key k x) 1 0) read lives, one_of_uuid k))

  -- what stands under the UUID of a live store is its package
  stands_there : (s : Store) → In s lives → find (at_uuid (read s).uuid) v.packages ≡ Some (read s)
  stands_there s i = All-In (λ x. find (at_uuid (read x).uuid) v.packages ≡ Some (read x)) s lives
      (All-of_map (λ x. find (at_uuid x.uuid) v.packages ≡ Some x) read lives
      (All-of_arranged package_key (λ x. find (at_uuid x.uuid) v.packages ≡ Some x) (map read lives)
      (each_found v.packages distinct))) i

  live_there : (s : Store) → In s lives → is_live v (read s).uuid ≡ true
  live_there s i = list_any-arranged package_key (at_uuid (read s).uuid) (map read lives)
      ∙ any_in (at_uuid (read s).uuid) (read s) (map read lives) (In-map read s lives i)
      (bytes_eq_itself (read s).uuid)

  -- ---- parents and frames

  at_home : (s : Store) → In s lives → (l : Lent s) → (frame_of s ≡ frame_of root)
      × IsBelow (head l.parent) (head s)
  at_home s i l = stands.in_order.at_home l.parent l.claim s root stands.read_as.1
      (Contains-In l.parent stores (live_in l.parent l.parent_live).0) l.open' (Contains-In s stores (live_in s i).0)
      l.loan

  one_frame : (s : Store) → In s lives → frame_of root ≡ frame_of s
  one_frame s i = elim (lent_by s i) [ inl h ↦ ap frame_of (sym (the_root s i h)) | inr l ↦ sym (at_home s i l).0 ]

  has_parent : (s : Store) → In s lives → HasParent v (read s)
  has_parent s i = elim (lent_by s i) [
    | inl h ↦ root_parent (read s).parent (read s).depth (read s).loan _ (reads_at s i).level
        (sym (rooted_depth s i) ∙ h)
    | inr l ↦
        let below : ((read s).parent ≡ Some (read l.parent).uuid) × ((read s).depth ≡ (read l.parent).depth + 1) =
        subst (λ o. IsBelow (Some (head_of (read l.parent))) o) (reads_at s i).heads
        (subst (λ o. IsBelow o (head s)) (reads_at l.parent l.parent_live).heads (at_home s i l).1) in
        let level : (((read s).depth == 0) ≡ false) × ((read s).depth ≤ greatest_depth) =
        subst (λ o. MatchOption o (((read s).depth ≡ 0) × ((read s).loan ≡ 0))
        (λ q. (((read s).depth == 0) ≡ false) × ((read s).depth ≤ greatest_depth))) below.0
        (reads_at s i).level in
        let under : holdings v (read l.parent).uuid ≡ read l.parent =
        ap (λ o. unwrap_or o no_package) (stands_there l.parent l.parent_live) in
        subst (λ o. MatchOption o (((read s).depth ≡ 0) × ((read s).loan ≡ 0))
        (λ q. (is_live v q ≡ true) × ((read s).depth ≡ (holdings v q).depth + 1)
        × ((read s).depth ≤ greatest_depth))) (sym below.0)
        (live_there l.parent l.parent_live, below.1 ∙ ap (λ x. x.depth + 1) (sym under), level.1)
  ]

  packages : AllByRecursion (IsKeptPackage v) v.packages
  packages = All-arranged package_key (IsKeptPackage v) (map read lives) (All-map (IsKeptPackage v) read lives
      (All-weaker (λ s. In s lives) (λ s. IsKeptPackage v (read s))
      (λ s i. (reads_at s i).keeps v (one_frame s i) (has_parent s i)) lives (In-all lives)))

  -- a test as a number
  abbrev one : Bool → ℕ
  one b = cond b 1 0

  one_archive : count_by is_archive v.packages ≡ 1
  one_archive = omega (
    arith,
    sum_by-arranged package_key (λ x. cond (is_archive x) 1 0) (map read lives),
    sum_by-map (λ x. cond (is_archive x) 1 0) read lives,
    sum_by-same_all (λ s. cond (is_archive (read s)) 1 0) (λ s. cond (rooted s) 1 0) lives
        (All-weaker (λ s. In s lives) (λ s. one (is_archive (read s)) ≡ one (rooted s))
        (λ s i. ap one (archive_rooted s i)) lives (In-all lives)),
    sum_by-filter (λ s. cond (rooted s) 1 0) ends stores,
    sum_by-same (λ s. cond (ends s) (cond (rooted s) 1 0) 0) (λ s. cond (rooted s) 1 0)
        (λ s. counted 1 (rooted s) (ends s) (λ h. grows Store head claims IsFormed IsTied frame_of read stores 0
        (length stores) s (omega arith) h)) stores,
    stands.in_order.one_archive,
  )
    where
      counted : (n : ℕ) (r e : Bool) → (r ≡ true → e ≡ true) → cond e (cond r n 0) 0 ≡ cond r n 0
      counted n true true f = refl
      counted n true false f = absurd (false≢true (f refl))
      counted n false true f = refl
      counted n false false f = refl

  -- ---- open loans

  -- a merge that ends the loan of a receipt
  abbrev ends_lent : Receipt → Receipt → Bool
  ends_lent r m = is_merge m && ends_at m.source (unwrap_or r.target [])

  -- a claim that ends the loan of another
  abbrev ends_claim : Claim → Claim → Bool
  ends_claim c m = claims_merge m && bytes_eq m.source c.target && int_lt c.seq m.seq

  -- what a claimed merge ends, a receipt of the ledger ends
  ended_told : (r : Receipt) (child : List ℕ) → r.target ≡ Some child → is_uuid child ≡ true
      → list_any (ends_claim (claim_of r)) (told (length stores)) ≡ true
      → list_any (ends_lent r) (after r.seq ledger) ≡ true
  ended_told r child target uuid some =
      let f = any_of_taken claims ends (ends_claim (claim_of r)) stores some in
      let m : (m : Receipt) × In m ledger × (claim_of m ≡ f.3) =
      claimed_by f.0 f.3 (In-filter ends f.0 stores f.1 f.2) f.4 in
      let tests : ((claims_merge (claim_of m.0) && bytes_eq (claim_of m.0).source (claim_of r).target) ≡ true)
      × (int_lt (pos r.seq) (pos m.0.seq) ≡ true) =
      and_parts (claims_merge (claim_of m.0) && bytes_eq (claim_of m.0).source (claim_of r).target)
      (int_lt (pos r.seq) (pos m.0.seq)) (subst (λ c. ends_claim (claim_of r) c ≡ true) (sym m.2) f.5) in
      let two : (is_merge m.0 ≡ true) × (bytes_eq (claim_of m.0).source (claim_of r).target ≡ true) =
      and_parts (is_merge m.0) (bytes_eq (claim_of m.0).source (claim_of r).target) tests.0 in
      let e : (e : Entry) × IsReceiptOf m.0 e = entered m.0 m.1 in
      let s : (c : List ℕ) × (m.0.source ≡ Some c) × (is_uuid c ≡ true) = merge_source m.0 e.0 e.1 two.0 in
      let texts : uuid_text s.0 ≡ uuid_text child = ap (λ o. option_map_or uuid_text o []) (sym s.1)
      ∙ (bytes_eq-Decides (claim_of m.0).source (claim_of r).target).0 two.1
      ∙ ap (λ o. option_map_or uuid_text o []) target in
      let same : s.0 ≡ unwrap_or r.target [] = same_uuid s.0 child s.2 uuid texts
      ∙ sym (ap (λ o. unwrap_or o []) target) in
      any_in (ends_lent r) m.0 (after r.seq ledger) (In-filter (λ x. nat_lt r.seq x.seq) m.0 ledger m.1 tests.1)
      (and_from (is_merge m.0) (ends_at m.0.source (unwrap_or r.target [])) two.0
      (ends_at_some m.0.source (unwrap_or r.target []) (s.1 ∙ ap Some same)))

  -- what is open by the ledger is open by what the live stores claim
  open_told : (r : Receipt) (child : List ℕ) → r.target ≡ Some child → is_uuid child ≡ true
      → is_open_among ledger r ≡ true → is_open_claim (told (length stores)) (claim_of r) ≡ true
  open_told r child target uuid h =
      let tests : ((is_split r && is_some r.target) ≡ true) ×
      (not (list_any (ends_lent r) (after r.seq ledger)) ≡ true) =
      and_parts (is_split r && is_some r.target) (not (list_any (ends_lent r) (after r.seq ledger))) h in
      let long : nat_lt 0 (length (claim_of r).target) ≡ true =
      ap (λ o. nat_lt 0 (length (option_map_or uuid_text o []))) target
      ∙ ap (nat_lt 0) (by_index_length 36 _) in
      let none : list_any (ends_claim (claim_of r)) (told (length stores)) ≡ false =
      false_from_ne_true (list_any (ends_claim (claim_of r)) (told (length stores)))
      (λ some. true≢false (sym (ended_told r child target uuid some)
      ∙ not_true (list_any (ends_lent r) (after r.seq ledger)) tests.1)) in
      and_from (is_split r && nat_lt 0 (length (claim_of r).target))
      (not (list_any (ends_claim (claim_of r)) (told (length stores))))
      (and_from (is_split r) (nat_lt 0 (length (claim_of r).target))
      (and_parts (is_split r) (is_some r.target) tests.0).0 long) (ap not none)

  -- each receipt of the ledger is one of a live store
  owner : (r : Receipt) → In r ledger → (s : Store) × In s lives × In r (read s).receipts
  owner r i =
      let Owned : Receipt → Type 0 = λ x. (s : Store) × In s lives × In x (read s).receipts in
      All-In Owned r ledger (all_receipts Owned (All-weaker (λ s. In s lives)
      (λ s. AllByRecursion Owned (read s).receipts)
      (λ s j. All-weaker (λ x. In x (read s).receipts) Owned (λ x m. (s, j, m)) (read s).receipts
      (In-all (read s).receipts)) lives (In-all lives))) i

  open_live : (r : Receipt) → In r ledger → is_open_among ledger r ≡ true
      → is_live v (unwrap_or r.target []) ≡ true
  open_live r i h =
      let c : Claim = claim_of r in
      let split : is_split r ≡ true = (and_parts (is_split r) (is_some r.target)
      (and_parts (is_split r && is_some r.target) (not (list_any (ends_lent r) (after r.seq ledger)))
      h).0).0 in
      let e : (e : Entry) × IsReceiptOf r e = entered r i in
      let t : (child : List ℕ) × (r.target ≡ Some child) × (is_uuid child ≡ true) =
      split_target r e.0 e.1 split in
      let told' : is_open_claim (told (length stores)) c ≡ true = open_told r t.0 t.1 t.2 h in
      let text : c.target ≡ uuid_text t.0 = ap (λ o. option_map_or uuid_text o []) t.1 in
      let o : (s : Store) × In s lives × In r (read s).receipts = owner r i in
      let claimed : In c (claims o.0) = subst (In c) (sym (reads_at o.0 o.1).claimed)
      (In-map claim_of r (read o.0).receipts o.2) in
      let first = first_round Store head claims IsFormed IsTied frame_of read stores (length stores) o.0
      (live_in o.0 o.1).1 in
      let split_of : IsOpenSplitOf Store head claims IsFormed IsTied frame_of read stores o.0 c = (
        first.0,
        first.2,
        Contains-In c (claims o.0) claimed,
        open_falls Store head claims IsFormed IsTied frame_of
            read stores first.0 (length stores) c first.1 told',
      ) in
      let some : list_any (makes c) stores ≡ true = true_from_ne_false (list_any (makes c) stores) (λ none.
      stands.in_order.none_missing t.0 (
        o.0,
        c,
        Contains-In o.0 stores (live_in o.0 o.1).0,
        split_of,
        t.2,
        text,
        eq-eqb (count_by (makes c) stores) 0 (any_none (makes c) stores none),
      )) in
      let z : (z : Store) × In z stores × (makes c z ≡ true) = any_at (makes c) stores some in
      let made : list_any (λ x. makes x z.0 && is_open_claim (told (length stores)) x) (told (length stores))
      ≡ true =
      any_in (λ x. makes x z.0 && is_open_claim (told (length stores)) x) c (told (length stores))
      (In-flat_map claims o.0 c lives o.1 claimed) (and_from (makes c z.0)
      (is_open_claim (told (length stores)) c) z.2 told') in
      let found' : ends z.0 ≡ true = sym (All-In (λ s. at Store head claims IsFormed IsTied frame_of read stores
      (suc (length stores)) s ≡ ends s) z.0 stores (all_found Store head claims IsFormed IsTied frame_of
      read stores) z.1)
      ∙ ap (λ b. ends z.0 || b) made ∙ or-true (ends z.0) in
      let live' : In z.0 lives = In-filter ends z.0 stores z.1 found' in
      let uuid : (read z.0).uuid ≡ unwrap_or r.target [] = same_uuid (read z.0).uuid t.0 (reads_at z.0 live').uuid
      t.2 (loan_uuid z.0 c live' z.2 ∙ text) ∙ sym (ap (λ x. unwrap_or x []) t.1) in
      subst (λ u. is_live v u ≡ true) uuid (live_there z.0 live')

  register : IsRegister v
  register = record {
    frame = (reads_at root root_live).frame;
    arranged = distinct;
    archive = one_archive;
    packages = packages;
    open_loans = All-weaker (λ r. In r ledger) (λ r. is_open_among ledger r ≡ true
        → is_live v (unwrap_or r.target []) ≡ true) open_live ledger (In-all ledger);
    balanced = balanced;
    unaltered = subst (λ x. altered x ≡ []) stands.read_as.2 stands.unaltered;
  }

  pub opened_is_register : IsRegister w
  opened_is_register = subst IsRegister (sym stands.read_as.2) register
