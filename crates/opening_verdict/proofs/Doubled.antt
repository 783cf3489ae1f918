-- No two live packages have one UUID, where none of the first seven faults holds and the account is balanced: a
-- ledger lends no package twice, and none under the archive's UUID.
use Rattle.std.specs.Prelude.{◌≡◌, ◌⊎◌, ℕ, suc, ◌+◌, ◌≤◌, ◌==◌, nat_le, Bool, true, false}
use Rattle.std.specs.Prelude.{cond, not, ◌&&◌, ◌||◌}
use Rattle.std.specs.Prelude.{List, [], ◌∷◌, ◌++◌, map, filter, find, length, refl, Option, Some, None}
use Rattle.std.specs.Prelude.{is_some}
use Rattle.std.specs.Prelude.{is_none, unwrap_or, MatchOption, count_by, flat_map, nat_lt, bytes_eq, pos, int_lt}
use Rattle.std.proofs.Common.{sym, ap, subst, ◌∙◌, arith, inl, inr}
use Rattle.std.proofs.lemmas.Bool.{true≢false, false≢true, and_parts, and_from, false_from_ne_true}
use Rattle.std.proofs.lemmas.Bool.{true_from_ne_false, eq-eqb}
use Rattle.std.proofs.lemmas.Bool.Decides.{nat_tests}
use Rattle.std.proofs.lemmas.Slice.Eq.{bytes_eq-Decides}
use Rattle.std.specs.List.{list_any, AllByRecursion}
use Rattle.std.specs.Option.{option_map_or}
use Rattle.sheet_types.specs.Ordered.{IsArranged}
use Rattle.sheet_types.specs.Matrix.{is_within}
use Rattle.sheet_types.specs.Texts.{Entry, Adds, Deletes, Links, Unlinks, Splits, Merges, uuid_text}
use Rattle.sheet_types.specs.Lines.{is_uuid, is_rect, is_number, is_splitting, is_merging}
use Rattle.sheet_types.specs.World.{World, Package, package_key, receipt_key, receipts_of, holdings, no_package}
use Rattle.sheet_types.specs.World.{is_live}
use Rattle.sheet_types.specs.Custody.{is_split, is_merge, ends_at, after, is_open_among}
use Rattle.sheet_types.specs.Refuse.{is_archive, greatest_depth}
use Rattle.sheet_types.specs.Balance.{Balanced, IsLedger, IsReceiptOf, archive_of, altered}
use Rattle.sheet_types.specs.Register.{IsRegister, IsKeptPackage, HasParent}
use Rattle.sheet_types.specs.Opening.{Head, Claim, head_of, claim_of, claims_split, claims_merge, is_open_claim}
use Rattle.sheet_types.specs.Opening.{IsBelow, is_root, is_loan_of, IsOpenSplitOf, world_read, InOrder, IsReading}
use Rattle.uuid.proofs.TextLemmas.{by_index_length}
use Rattle.sheet_types.specs.declared.frame.Frame.{Frame}
use Rattle.sheet_types.specs.declared.receipt.Receipt.{Receipt}
use Rattle.sheet_types.proofs.Basics.{bytes_eq_itself, not_true, not_false, or-true}
use Rattle.sheet_types.proofs.Every.{All-weaker, All-both, All-filter, All-taken, All-map, All-of_map, none_pass}
use Rattle.sheet_types.proofs.Sums.{sum_by-map, sum_by-same, sum_by-same_all, sum_by-filter, filter_less}
use Rattle.sheet_types.proofs.Sums.{count_le_all, any_none}
use Rattle.sheet_types.proofs.Found.{found, All-found}
use Rattle.sheet_types.proofs.Order.{All-arranged, All-of_arranged, sum_by-arranged, list_any-arranged, with_key}
use Rattle.sheet_types.proofs.Order.{arranged_counts}
use Rattle.sheet_types.proofs.Same.{In, In-all, All-In, In-filter, In-map, In-of_map, In-flat_map, any_in, any_at}
use Rattle.sheet_types.proofs.Same.{two_are_one, Contains-In}
use Rattle.sheet_types.proofs.LineReading.{line-entry_from, same_uuid}
use Rattle.sheet_laws.proofs.Packages.{at_uuid, each_found, stand_flat}
use Rattle.sheet_laws.proofs.Shifting.{each_stands, ends_at_some}
use Rattle.sheet_laws.proofs.Ledger.{by_entry}
use Rattle.sheet_laws.proofs.Facts.{ledger_entered}
use Rattle.sheet_laws.proofs.Merging.{lent_to, lent_once}
use Rattle.sheet_laws.proofs.Rounds.{at, said, grows, first_round, open_falls, origin, all_found, any_of_taken}

-- ---- receipts of splits and of merges

-- a split has a target, which is a UUID
split_target : (r : Receipt) (e : Entry) → IsReceiptOf r e → is_split r ≡ true → (child : List ℕ)
    × (r.target ≡ Some child) × (is_uuid child ≡ true)
split_target r (Splits p child mode rect) of split =
    let fit : (is_uuid p && is_uuid child && is_rect rect) ≡ true =
    (line-entry_from r.line (Splits p child mode rect) of.says).0 in (
      child,
      of.comes_to,
      (and_parts (is_uuid p) (is_uuid child)
          (and_parts (is_uuid p && is_uuid child) (is_rect rect) fit).0).1,
    )
split_target r (Adds p identity kind size digest) of split =
    absurd (false≢true (sym (by_entry is_splitting r (Adds p identity kind size digest) of.says) ∙ split))
split_target r (Deletes p identity) of split = absurd (false≢true
    (sym (by_entry is_splitting r (Deletes p identity) of.says) ∙ split))
split_target r (Links p mapping base other) of split = absurd
    (false≢true (sym (by_entry is_splitting r (Links p mapping base other) of.says) ∙ split))
split_target r (Unlinks p mapping base other) of split = absurd
    (false≢true (sym (by_entry is_splitting r (Unlinks p mapping base other) of.says) ∙ split))
split_target r (Merges child into ticket) of split = absurd (false≢true
    (sym (by_entry is_splitting r (Merges child into ticket) of.says) ∙ split))

-- no split of a sound ledger lends under the archive's UUID
never_archive : (archive : List ℕ) (past rs : List Receipt) → IsLedger archive past rs
    → AllByRecursion (λ r. is_split r ≡ true → ends_at r.target archive ≡ false) rs
never_archive archive past [] h = tt
never_archive archive past (r ∷ rs) h = (
  (λ split. (h.0.new_loan split).1),
  never_archive archive (past ++ r ∷ []) rs
      h.1,
)

-- what a depth says of a parent
pub no_parent : (o : Option (List ℕ)) (depth loan : ℕ) → MatchOption o ((depth ≡ 0) × (loan ≡ 0))
    (λ q. ((depth == 0) ≡ false) × (depth ≤ greatest_depth)) → is_none o ≡ (depth == 0)
no_parent None depth loan h = sym (eq-eqb depth 0 h.0)
no_parent (Some q) depth loan h = sym h.0

at_most_one : (n : ℕ) → nat_le 2 n ≡ false → n ≤ 1
at_most_one n h = grind (arith, nat_tests)

module _ (Store : Type 0) (head : Store → Option Head) (claims : Store → List Claim) (IsFormed : Store → Type 0)
    (IsTied : Store → Type 0) (frame_of : Store → Frame) (read : Store → Package) (stores : List Store)
    (order : InOrder Store head claims IsFormed IsTied frame_of read stores) (root : Store)
    (root_is : find (is_root Store head claims IsFormed IsTied frame_of read) stores ≡ Some root)
    (balanced : Balanced (world_read Store head claims IsFormed IsTied frame_of read stores root))
    (readings : AllByRecursion (λ s. IsFormed s → IsTied s → IsReading Store head claims IsFormed IsTied frame_of
    read
    s) stores) where
  abbrev Reads : Store → Type 0
  Reads s = IsReading Store head claims IsFormed IsTied frame_of read s

  abbrev rooted : Store → Bool
  rooted s = is_root Store head claims IsFormed IsTied frame_of read s

  -- found in the end
  abbrev ends : Store → Bool
  ends s = at Store head claims IsFormed IsTied frame_of read stores (length stores) s

  abbrev lives : List Store
  lives = filter ends stores

  abbrev makes : Claim → Store → Bool
  makes c s = is_loan_of Store head claims IsFormed IsTied frame_of read c s

  abbrev told : ℕ → List Claim
  told k = said Store head claims IsFormed IsTied frame_of read stores k

  -- the world as it is read
  abbrev v : World
  v = world_read Store head claims IsFormed IsTied frame_of read stores root

  abbrev ledger : List Receipt
  ledger = receipts_of v

  pub each_reads : AllByRecursion Reads lives
  each_reads = All-both IsTied (λ s. IsTied s → Reads s) Reads (λ s t f. f t) lives order.tied
      (All-both IsFormed (λ s. IsFormed s → IsTied s → Reads s) (λ s. IsTied s → Reads s) (λ s t f. f t) lives
      order.formed (All-filter (λ s. IsFormed s → IsTied s → Reads s) ends stores readings))

  reads_at : (s : Store) → In s lives → Reads s
  reads_at s i = All-In Reads s lives each_reads i

  live_in : (s : Store) → In s lives → In s stores × (ends s ≡ true)
  live_in s i = All-In (λ x. In x stores × (ends x ≡ true)) s lives
      (All-taken (λ x. In x stores × (ends x ≡ true)) ends stores
      (All-weaker (λ x. In x stores) (λ x. ends x ≡ true → In x stores × (ends x ≡ true)) (λ x j e. (j, e))
      stores
      (In-all stores))) i

  -- ---- receipts of the live stores, and of the world

  each_receipt : (P : Receipt → Type 0) → AllByRecursion P ledger
      → AllByRecursion (λ s. AllByRecursion P (read s).receipts) lives
  each_receipt P h = All-of_map (λ x. AllByRecursion P x.receipts) read lives
      (All-of_arranged package_key (λ x. AllByRecursion P x.receipts) (map read lives)
      (each_stands P v h))

  all_receipts : (P : Receipt → Type 0) → AllByRecursion (λ s. AllByRecursion P (read s).receipts) lives
      → AllByRecursion P ledger
  all_receipts P h = All-arranged receipt_key P (flat_map (λ x. x.receipts) v.packages)
      (stand_flat P v.packages (All-arranged package_key (λ x. AllByRecursion P x.receipts) (map read lives)
      (All-map (λ x. AllByRecursion P x.receipts) read lives h)))

  in_ledger : (s : Store) (r : Receipt) → In s lives → In r (read s).receipts → In r ledger
  in_ledger s r i j = All-In (λ x. In x ledger) r (read s).receipts
      (All-In (λ x. AllByRecursion (λ y. In y ledger) (read x).receipts) s lives
      (each_receipt (λ x. In x ledger) (In-all ledger)) i) j

  entered : (r : Receipt) → In r ledger → (e : Entry) × IsReceiptOf r e
  entered r i = All-In (λ x. (e : Entry) × IsReceiptOf x e) r ledger
      (ledger_entered (archive_of v) [] ledger balanced.ledger) i

  -- what a live store claims is what a receipt of its package says
  claimed_by : (s : Store) (c : Claim) → In s lives → In c (claims s) → (r : Receipt) × In r ledger
      × (claim_of r ≡ c)
  claimed_by s c i j =
      let r : (r : Receipt) × In r (read s).receipts × (claim_of r ≡ c) =
      In-of_map claim_of c (read s).receipts (subst (In c) (reads_at s i).claimed j) in
      (r.0, in_ledger s r.0 i r.1, r.2)

  -- ---- roots and loans

  pub root_in : In root stores × (rooted root ≡ true)
  root_in = All-found (λ s. In s stores) rooted root stores root_is (In-all stores)

  pub root_live : In root lives
  root_live = In-filter ends root stores root_in.0 (grows Store head claims IsFormed IsTied frame_of read stores 0
      (length stores) root (omega arith) root_in.1)

  the_root : (s : Store) → In s lives → rooted s ≡ true → s ≡ root
  the_root s i h = two_are_one rooted s root stores (omega (arith, order.one_archive)) (live_in s i).0 root_in.0 h
      root_in.1

  rooted_depth : (s : Store) → In s lives → rooted s ≡ ((read s).depth == 0)
  rooted_depth s i = ap (λ o. option_map_or (λ h. h.depth == 0) o false) (reads_at s i).heads

  pub archive_rooted : (s : Store) → In s lives → is_archive (read s) ≡ rooted s
  archive_rooted s i = no_parent (read s).parent (read s).depth (read s).loan (reads_at s i).level
      ∙ sym (rooted_depth s i)

  -- the loan of a claim has its target's UUID
  loan_uuid : (s : Store) (c : Claim) → In s lives → makes c s ≡ true → uuid_text (read s).uuid ≡ c.target
  loan_uuid s c i h =
      let both : (bytes_eq (uuid_text (read s).uuid) c.target ≡ true)
      × (is_within c.seq c.seq (pos (read s).loan) ≡ true) =
      and_parts (bytes_eq (uuid_text (read s).uuid) c.target) (is_within c.seq c.seq (pos (read s).loan))
      (sym (ap (λ o. option_map_or (λ x. bytes_eq (uuid_text x.uuid) c.target && is_within c.seq c.seq
      (pos x.loan)) o false) (reads_at s i).heads) ∙ h) in
      (bytes_eq-Decides (uuid_text (read s).uuid) c.target).0 both.0

  -- a live store that is no archive: the loan of an open split of a live store, by a receipt of the ledger
  record Lent (s : Store) : Type 0 where
    parent : Store
    parent_live : In parent lives
    claim : Claim
    loan : makes claim s ≡ true
    open' : IsOpenSplitOf Store head claims IsFormed IsTied frame_of read stores parent claim
    receipt : Receipt
    entered_as : In receipt ledger
    says : claim_of receipt ≡ claim
    lends : lent_to (read s).uuid receipt ≡ true

  -- the target of an open claim that a receipt says
  claim_split : (k : ℕ) (r : Receipt) (c : Claim) → claim_of r ≡ c → is_open_claim (told k) c ≡ true
      → is_split r ≡ true
  claim_split k r c e h = subst (λ x. claims_split x ≡ true) (sym e)
      (and_parts (claims_split c) (nat_lt 0 (length c.target))
      (and_parts (claims_split c && nat_lt 0 (length c.target)) _ h).0).0

  lent_by : (s : Store) → In s lives → (rooted s ≡ true) ⊎ Lent s
  lent_by s i = elim (origin Store head claims IsFormed IsTied frame_of read stores (length stores) s (live_in s i).1) [
    | inl h ↦ inl h
    | inr o ↦
        let parent_ends : ends o.2 ≡ true = grows Store head claims IsFormed IsTied frame_of read stores o.0
        (length stores) o.2 (omega (arith, o.1)) o.4 in
        let parent_live : In o.2 lives = In-filter ends o.2 stores o.3 parent_ends in
        let first = first_round Store head claims IsFormed IsTied frame_of read stores o.0 o.2 o.4 in
        let r : (r : Receipt) × In r ledger × (claim_of r ≡ o.5) = claimed_by o.2 o.5 parent_live o.6 in
        let split : is_split r.0 ≡ true = claim_split o.0 r.0 o.5 r.2 o.8 in
        let e : (e : Entry) × IsReceiptOf r.0 e = entered r.0 r.1 in
        let t : (child : List ℕ) × (r.0.target ≡ Some child) × (is_uuid child ≡ true) =
        split_target r.0 e.0 e.1 split in
        let texts : uuid_text t.0 ≡ uuid_text (read s).uuid =
        ap (λ z. option_map_or uuid_text z []) (sym t.1) ∙ ap (λ c. c.target) r.2
        ∙ sym (loan_uuid s o.5 i o.7) in
        let uuid : t.0 ≡ (read s).uuid = same_uuid t.0 (read s).uuid t.2 (reads_at s i).uuid texts in
        inr (record {
          parent = o.2;
          parent_live = parent_live;
          claim = o.5;
          loan = o.7;
          open' = (
            first.0,
            first.2,
            Contains-In o.5 (claims o.2) o.6,
            open_falls Store head claims IsFormed IsTied
                frame_of read stores first.0 o.0 o.5 first.1 o.8,
          );
          receipt = r.0;
          entered_as = r.1;
          says = r.2;
          lends = and_from (is_split r.0) (ends_at r.0.target (read s).uuid) split
              (ends_at_some r.0.target (read s).uuid (t.1 ∙ ap Some uuid));
        })
  ]

  -- ---- one package for each UUID

  archive_uuid : archive_of v ≡ (read root).uuid
  archive_uuid =
      let there : list_any is_archive v.packages ≡ true = list_any-arranged package_key is_archive (map read lives)
      ∙ any_in is_archive (read root) (map read lives) (In-map read root lives root_live)
      (archive_rooted root root_live ∙ root_in.1) in
      let f : (x : Package) × (find is_archive v.packages ≡ Some x) = found is_archive v.packages there in
      let Only : Package → Type 0 = λ x. is_archive x ≡ true → x ≡ read root in
      let only : AllByRecursion Only v.packages = All-arranged package_key Only (map read lives)
      (All-map Only read lives
      (All-weaker (λ s. In s lives) (λ s. Only (read s)) (λ s i a. ap read
      (the_root s i (sym (archive_rooted s i) ∙ a))) lives (In-all lives))) in
      let is : Only f.0 × (is_archive f.0 ≡ true) = All-found Only is_archive f.0 v.packages f.1 only in
      ap (λ o. option_map_or (λ x. x.uuid) o []) f.1 ∙ ap (λ x. x.uuid) (is.0 is.1)

  -- a live store of a loan's UUID is that loan's
  same_loan : (k : List ℕ) (s z : Store) → In z lives → (read s).uuid ≡ k → (read z).uuid ≡ k
      → (l : Lent s)
      → makes l.claim z ≡ true
  same_loan k s z j es ez l = elim (lent_by z j) [
    | inl rootz ↦
        let lends : (is_split l.receipt ≡ true) × (ends_at l.receipt.target (read s).uuid ≡ true) =
        and_parts (is_split l.receipt) (ends_at l.receipt.target (read s).uuid) l.lends in
        let never : ends_at l.receipt.target (archive_of v) ≡ false =
        All-In (λ r. is_split r ≡ true → ends_at r.target (archive_of v) ≡ false) l.receipt ledger
        (never_archive (archive_of v) [] ledger balanced.ledger) l.entered_as lends.0 in
        let same : archive_of v ≡ (read s).uuid = archive_uuid ∙ ap (λ x. (read x).uuid) (sym (the_root z j rootz))
        ∙ ez ∙ sym es in
        absurd (true≢false (sym lends.1 ∙ ap (ends_at l.receipt.target) (sym same) ∙ never))
    | inr m ↦
        let one : m.receipt ≡ l.receipt = two_are_one (lent_to k) m.receipt l.receipt ledger
        (lent_once v k balanced.ledger) m.entered_as l.entered_as
        (subst (λ u. lent_to u m.receipt ≡ true) ez m.lends)
        (subst (λ u. lent_to u l.receipt ≡ true) es l.lends) in
        subst (λ c. makes c z ≡ true) (sym m.says ∙ ap claim_of one ∙ l.says) m.loan
  ]

  -- a loan is there once
  loan_once : (s : Store) (l : Lent s) → In s lives → count_by (makes l.claim) stores ≤ 1
  loan_once s l i = at_most_one (count_by (makes l.claim) stores)
      (false_from_ne_true (nat_le 2 (count_by (makes l.claim) stores)) (λ twice.
      order.no_copies (read s).uuid (
        l.parent,
        l.claim,
        Contains-In l.parent stores
            (live_in l.parent l.parent_live).0,
        l.open',
        (reads_at s i).uuid,
        sym (loan_uuid s l.claim i l.loan),
        twice,
      )))

  abbrev of_uuid : List ℕ → Store → Bool
  of_uuid k s = bytes_eq (read s).uuid k

  one_of_uuid : (k : List ℕ) → count_by (of_uuid k) lives ≤ 1
  one_of_uuid k =
      elim (list_any (λ s. of_uuid k s && not (rooted s)) lives) as
      (λ b. list_any (λ s. of_uuid k s && not (rooted s)) lives ≡ b → count_by (of_uuid k) lives ≤ 1) [
        | true ↦ λ some.
            let s : (s : Store) × In s lives × ((of_uuid k s && not (rooted s)) ≡ true) =
            any_at (λ s. of_uuid k s && not (rooted s)) lives some in
            let tests : (of_uuid k s.0 ≡ true) × (not (rooted s.0) ≡ true) =
            and_parts (of_uuid k s.0) (not (rooted s.0)) s.2 in
            elim (lent_by s.0 s.1) [
              | inl h ↦ absurd (true≢false (sym h ∙ not_true (rooted s.0) tests.1))
              | inr l ↦
                  let less : count_by (of_uuid k) lives ≤ count_by (makes l.claim) lives =
                  count_le_all (of_uuid k) (makes l.claim) lives
                  (All-weaker (λ z. In z lives) (λ z. of_uuid k z ≡ true → makes l.claim z ≡ true)
                  (λ z j same. same_loan k s.0 z j ((bytes_eq-Decides (read s.0).uuid k).0 tests.0)
                  ((bytes_eq-Decides (read z).uuid k).0 same) l) lives (In-all lives)) in
                  omega (arith, less, filter_less (λ z. cond (makes l.claim z) 1 0) ends stores, loan_once s.0 l s.1)
            ]
        | false ↦ λ none.
            let each : AllByRecursion (λ s. (of_uuid k s && not (rooted s)) ≡ false) lives =
            none_pass (λ s. of_uuid k s && not (rooted s)) lives none in
            let less : count_by (of_uuid k) lives ≤ count_by rooted lives = count_le_all (of_uuid k) rooted lives
            (All-weaker (λ s. (of_uuid k s && not (rooted s)) ≡ false)
            (λ s. of_uuid k s ≡ true → rooted s ≡ true)
            (λ s n same. not_false (rooted s) (sym (ap (λ b. b && not (rooted s)) same) ∙ n)) lives each) in
            omega (arith, less, filter_less (λ z. cond (rooted z) 1 0) ends stores, order.one_archive)
      ] refl

  pub distinct : IsArranged package_key v.packages
  distinct = arranged_counts package_key (map read lives) (λ k. omega
      (arith, sum_by-map (λ x. cond (with_key package_key k x) 1 0) read lives, one_of_uuid k))
