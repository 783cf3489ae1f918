-- Splits and merges of a register: which package an open split lent, and which split lent a package.
use Rattle.std.specs.Prelude.{◌≡◌, ℕ, ◌+◌, ◌≤◌, Bool, true, false, not, ◌&&◌, ◌==◌, nat_lt}
use Rattle.std.specs.Prelude.{List, [], ◌∷◌, ◌++◌, find}
use Rattle.std.specs.Prelude.{filter, flat_map, refl, Some, None, is_some, is_none, unwrap_or, MatchOption, ⊤}
use Rattle.std.specs.Prelude.{bytes_eq, cond}
use Rattle.std.proofs.Common.{sym, ap, subst, ◌∙◌, arith, inl, inr}
use Rattle.std.proofs.lemmas.Bool.{true≢false, false≢true, and_parts, and_from, eqb-true}
use Rattle.std.specs.List.{list_any, AllByRecursion}
use Rattle.std.specs.Option.{option_map_or}
use Rattle.sheet_types.specs.Texts.{Entry, Adds, Deletes, Links, Unlinks, Splits, Merges}
use Rattle.sheet_types.specs.Lines.{is_uuid, is_rect, is_number, is_splitting, is_merging, entry_from}
use Rattle.sheet_types.specs.World.{World, Package, package_key, receipt_key, receipts_of, holdings, is_live}
use Rattle.sheet_types.specs.Custody.{is_split, is_merge, ends_at, after, is_open_among}
use Rattle.sheet_types.specs.Refuse.{is_archive, greatest_depth}
use Rattle.sheet_types.specs.Balance.{IsLedger, IsReceiptOf, IsHome, IsLoan, UndoesHere, archive_of, home_after}
use Rattle.sheet_types.specs.Balance.{stands_in}
use Rattle.sheet_types.specs.Register.{IsRegister, IsKeptPackage}
use Rattle.sheet_types.specs.declared.receipt.Receipt.{Receipt}
use Rattle.sheet_types.proofs.Basics.{some_once, bytes_eq_itself}
use Rattle.sheet_types.proofs.Every.{All-weaker}
use Rattle.sheet_types.proofs.Found.{found, All-found}
use Rattle.sheet_types.proofs.Order.{All-arranged, counts_arranged}
use Rattle.sheet_types.proofs.Same.{In, In-all, All-In, any_in, any_at, two_are_one}
use Rattle.sheet_types.proofs.LineReading.{line-entry_from}
use Rattle.sheet_laws.proofs.Packages.{at_uuid, at_all, stand_flat}
use Rattle.sheet_laws.proofs.Shifting.{each_stands, ends_at_is, ends_at_some}
use Rattle.sheet_laws.proofs.Ledger.{by_entry}
use Rattle.sheet_laws.proofs.Facts.{ledger_entered}
use Rattle.sheet_laws.proofs.Merging.{lent_to, lent_once}

-- ---- the ends of splits and merges

-- a split has a target, which is a UUID
split_target : (r : Receipt) (e : Entry) → IsReceiptOf r e → is_split r ≡ true → (child : List ℕ)
    × (r.target ≡ Some child) × (is_uuid child ≡ true)
split_target r (Splits p child mode rect) of split =
    let fit : (is_uuid p && is_uuid child && is_rect rect) ≡ true =
    (line-entry_from r.line (Splits p child mode rect) of.says).0 in (
      child,
      of.comes_to,
      (and_parts (is_uuid p) (is_uuid child)
          (and_parts (is_uuid p && is_uuid child) (is_rect rect) fit).0).1,
    )
split_target r (Adds p identity kind size digest) of split =
    absurd (false≢true (sym (by_entry is_splitting r (Adds p identity kind size digest) of.says) ∙ split))
split_target r (Deletes p identity) of split = absurd (false≢true
    (sym (by_entry is_splitting r (Deletes p identity) of.says) ∙ split))
split_target r (Links p mapping base other) of split = absurd
    (false≢true (sym (by_entry is_splitting r (Links p mapping base other) of.says) ∙ split))
split_target r (Unlinks p mapping base other) of split = absurd
    (false≢true (sym (by_entry is_splitting r (Unlinks p mapping base other) of.says) ∙ split))
split_target r (Merges child into ticket) of split = absurd (false≢true
    (sym (by_entry is_splitting r (Merges child into ticket) of.says) ∙ split))

-- a merge has a source, which is a UUID
merge_source : (r : Receipt) (e : Entry) → IsReceiptOf r e → is_merge r ≡ true → (child : List ℕ)
    × (r.source ≡ Some child) × (is_uuid child ≡ true)
merge_source r (Merges child into ticket) of merge =
    let fit : (is_uuid child && is_uuid into && is_number ticket) ≡ true =
    (line-entry_from r.line (Merges child into ticket) of.says).0 in (
      child,
      of.leaves,
      (and_parts (is_uuid child) (is_uuid into)
          (and_parts (is_uuid child && is_uuid into) (is_number ticket) fit).0).0,
    )
merge_source r (Adds p identity kind size digest) of merge =
    absurd (false≢true (sym (by_entry is_merging r (Adds p identity kind size digest) of.says) ∙ merge))
merge_source r (Deletes p identity) of merge = absurd (false≢true
    (sym (by_entry is_merging r (Deletes p identity) of.says) ∙ merge))
merge_source r (Links p mapping base other) of merge = absurd
    (false≢true (sym (by_entry is_merging r (Links p mapping base other) of.says) ∙ merge))
merge_source r (Unlinks p mapping base other) of merge = absurd
    (false≢true (sym (by_entry is_merging r (Unlinks p mapping base other) of.says) ∙ merge))
merge_source r (Splits p child mode rect) of merge = absurd (false≢true
    (sym (by_entry is_merging r (Splits p child mode rect) of.says) ∙ merge))

-- no split of a sound ledger lends under the archive's UUID
never_archive : (archive : List ℕ) (past rs : List Receipt) → IsLedger archive past rs
    → AllByRecursion (λ r. is_split r ≡ true → ends_at r.target archive ≡ false) rs
never_archive archive past [] h = tt
never_archive archive past (r ∷ rs) h = (
  (λ split. (h.0.new_loan split).1),
  never_archive archive (past ++ r ∷ []) rs
      h.1,
)

-- an element that passes
pub In-of_filter : {X : Type 0} (t : X → Bool) (x : X) (xs : List X) → In x (filter t xs) → In x xs
    × (t x ≡ true)
In-of_filter t x [] i = absurd i
In-of_filter t x (y ∷ ys) i =
    elim (t y) as (λ v. t y ≡ v → In x (cond v (y ∷ filter t ys) (filter t ys)) → In x (y ∷ ys)
    × (t x ≡ true)) [
      | true ↦ λ e j. elim j [
        | inl same ↦ (inl same, subst (λ z. t z ≡ true) same e)
        | inr k ↦ let r = In-of_filter t x ys k in (inr r.0, r.1)
      ]
      | false ↦ λ e j. let r = In-of_filter t x ys j in (inr r.0, r.1)
    ] refl i

module _ (w : World) (register : IsRegister w) where
  abbrev pub ledger : List Receipt
  ledger = receipts_of w

  -- ---- receipts and their packages

  pub in_ledger : (p : Package) (r : Receipt) → In p w.packages → In r p.receipts → In r ledger
  in_ledger p r i j = All-In (λ x. In x ledger) r p.receipts
      (All-In (λ x. AllByRecursion (λ y. In y ledger) x.receipts) p w.packages
      (each_stands (λ x. In x ledger) w (In-all ledger)) i) j

  -- a receipt of the ledger is one of a package
  pub owner : (r : Receipt) → In r ledger → (p : Package) × In p w.packages × In r p.receipts
  owner r i =
      let Owned : Receipt → Type 0 = λ x. (p : Package) × In p w.packages × In x p.receipts in
      let each : AllByRecursion (λ p. AllByRecursion Owned p.receipts) w.packages =
      All-weaker (λ p. In p w.packages) (λ p. AllByRecursion Owned p.receipts)
      (λ p j. All-weaker (λ x. In x p.receipts) Owned (λ x m. (p, j, m)) p.receipts (In-all p.receipts)) w.packages
      (In-all w.packages) in
      All-In Owned r ledger (All-arranged receipt_key Owned (flat_map (λ p. p.receipts) w.packages)
      (stand_flat Owned w.packages each)) i

  pub kept : (p : Package) → In p w.packages → IsKeptPackage w p
  kept p i = All-In (IsKeptPackage w) p w.packages register.packages i

  -- a UUID is that of one package
  pub same_package : (p q : Package) → In p w.packages → In q w.packages → p.uuid ≡ q.uuid → p ≡ q
  same_package p q i j e = two_are_one (at_uuid q.uuid) p q w.packages
      (counts_arranged package_key q.uuid w.packages register.arranged) i j
      (subst (λ u. bytes_eq u q.uuid ≡ true) (sym e) (bytes_eq_itself q.uuid)) (bytes_eq_itself q.uuid)

  -- a receipt stands in one package
  pub one_home : (p q : Package) (r : Receipt) → In p w.packages → In q w.packages → In r p.receipts
      → In r q.receipts
      → p ≡ q
  one_home p q r ip iq jp jq =
      let home : (x : Package) → In x w.packages → In r x.receipts → IsHome w x r =
      λ x i j. All-In (IsHome w x) r x.receipts (All-In (λ y. AllByRecursion (IsHome w y) y.receipts) x w.packages
      register.balanced.homes i) j in
      let a : IsHome w p r = home p ip jp in
      let b : IsHome w q r = home q iq jq in
      let e : a.0 ≡ b.0 = some_once (entry_from r.line) a.0 b.0 a.1 b.1 in
      same_package p q ip iq (a.2 ∙ ap (λ x. home_after (after r.seq ledger) (stands_in x)) e ∙ sym b.2)

  says : (r : Receipt) → In r ledger → (e : Entry) × IsReceiptOf r e
  says r i = All-In (λ x. (e : Entry) × IsReceiptOf x e) r ledger
      (ledger_entered (archive_of w) [] ledger register.balanced.ledger) i

  pub lends_to : (r : Receipt) → In r ledger → is_split r ≡ true → (child : List ℕ)
      × (r.target ≡ Some child)
      × (is_uuid child ≡ true)
  lends_to r i split = let e = says r i in split_target r e.0 e.1 split

  pub comes_from : (r : Receipt) → In r ledger → is_merge r ≡ true → (child : List ℕ)
      × (r.source ≡ Some child)
      × (is_uuid child ≡ true)
  comes_from r i merge = let e = says r i in merge_source r e.0 e.1 merge

  -- a merge that undoes a split of a package stands in it too
  pub undone_here : (p : Package) (r m : Receipt) (child : List ℕ) → In p w.packages → In r p.receipts
      → In m ledger
      → is_split r ≡ true → is_merge m ≡ true → r.target ≡ Some child → m.source ≡ Some child
      → nat_lt r.seq m.seq ≡ true → In m p.receipts
  undone_here p r m child ip jr jm split merge target source later =
      let o : (x : Package) × In x w.packages × In m x.receipts = owner m jm in
      let here : UndoesHere w o.0 m = All-In (UndoesHere w o.0) m o.0.receipts
      (All-In (λ x. AllByRecursion (UndoesHere w x) x.receipts) o.0 w.packages register.balanced.together o.1)
      o.2 in
      let each = All-In (λ x. AllByRecursion (λ s. is_split s && nat_lt s.seq m.seq && ends_at s.target
      (unwrap_or m.source []) ≡ true → x.uuid ≡ o.0.uuid) x.receipts) p w.packages (here merge) ip in
      let ended : ends_at r.target (unwrap_or m.source []) ≡ true =
      ends_at_some r.target (unwrap_or m.source []) (target ∙ ap (λ o. Some (unwrap_or o [])) (sym source)) in
      let same : p.uuid ≡ o.0.uuid = All-In (λ s. is_split s && nat_lt s.seq m.seq && ends_at s.target
      (unwrap_or m.source []) ≡ true → p.uuid ≡ o.0.uuid) r p.receipts each jr
      (and_from (is_split r && nat_lt r.seq m.seq) (ends_at r.target (unwrap_or m.source []))
      (and_from (is_split r) (nat_lt r.seq m.seq) split later) ended) in
      subst (λ x. In m x.receipts) (sym (same_package p o.0 ip o.1 same)) o.2

  -- ---- a loan and the split that made it

  -- the package was lent by this split, which is open and stands in its parent
  pub record Lent (q : Package) : Type 0 where
    pub parent : Package
    pub live : In parent w.packages
    pub above : q.parent ≡ Some parent.uuid
    pub depth : q.depth ≡ parent.depth + 1
    pub receipt : Receipt
    pub stands : In receipt parent.receipts
    pub split : is_split receipt ≡ true
    pub target : receipt.target ≡ Some q.uuid
    pub number : receipt.seq ≡ q.loan
    pub is_open : is_open_among ledger receipt ≡ true

  -- each package with a parent was
  pub lent_by : (q : Package) (u : List ℕ) → In q w.packages → q.parent ≡ Some u → Lent q
  lent_by q u i above =
      let level : (is_live w u ≡ true) × (q.depth ≡ (holdings w u).depth + 1) × (q.depth ≤ greatest_depth) =
      subst (λ o. MatchOption o ((q.depth ≡ 0) × (q.loan ≡ 0))
      (λ x. (is_live w x ≡ true) × (q.depth ≡ (holdings w x).depth + 1) × (q.depth ≤ greatest_depth))) above
      (kept q i).parent in
      let p : In (holdings w u) w.packages × ((holdings w u).uuid ≡ u) =
      at_all w (λ x. In x w.packages) u (In-all w.packages) level.0 in
      let made : (list_any (λ r. is_split r && ends_at r.target q.uuid && (r.seq == q.loan)) (holdings w u).receipts
      ≡ true)
      × (list_any (λ m. is_merge m && ends_at m.source q.uuid) (after q.loan ledger) ≡ false) =
      subst (λ o. MatchOption o ⊤ (λ x. (list_any (λ r. is_split r && ends_at r.target q.uuid && (r.seq == q.loan))
      (holdings w x).receipts ≡ true)
      × (list_any (λ m. is_merge m && ends_at m.source q.uuid) (after q.loan ledger) ≡ false))) above
      (All-In (IsLoan w) q w.packages register.balanced.loans i) in
      let r : (r : Receipt) × In r (holdings w u).receipts ×
      ((is_split r && ends_at r.target q.uuid && (r.seq == q.loan)) ≡ true) =
      any_at (λ r. is_split r && ends_at r.target q.uuid && (r.seq == q.loan)) (holdings w u).receipts
      made.0 in
      let tests : ((is_split r.0 && ends_at r.0.target q.uuid) ≡ true) × ((r.0.seq == q.loan) ≡ true) =
      and_parts (is_split r.0 && ends_at r.0.target q.uuid) (r.0.seq == q.loan) r.2 in
      let both : (is_split r.0 ≡ true) × (ends_at r.0.target q.uuid ≡ true) =
      and_parts (is_split r.0) (ends_at r.0.target q.uuid) tests.0 in
      let target : r.0.target ≡ Some q.uuid = ends_at_is r.0.target q.uuid both.1 in
      let number : r.0.seq ≡ q.loan = eqb-true r.0.seq q.loan tests.1 in
      let none : list_any (λ m. is_merge m && ends_at m.source (unwrap_or r.0.target [])) (after r.0.seq ledger)
      ≡ false =
      subst (λ o. list_any (λ m. is_merge m && ends_at m.source (unwrap_or o [])) (after r.0.seq ledger) ≡ false)
      (sym target)
      (subst (λ n. list_any (λ m. is_merge m && ends_at m.source q.uuid) (after n ledger) ≡ false) (sym number)
      made.1) in
      record {
        parent = holdings w u;
        live = p.0;
        above = above ∙ ap Some (sym p.1);
        depth = level.1;
        receipt = r.0;
        stands = r.1;
        split = both.0;
        target = target;
        number = number;
        is_open = and_from (is_split r.0 && is_some r.0.target)
            (not (list_any (λ m. is_merge m && ends_at m.source (unwrap_or r.0.target [])) (after r.0.seq ledger)))
            (and_from (is_split r.0) (is_some r.0.target) both.0 (ap is_some target)) (ap not none);
      }

  -- an archive has the UUID of the world's archive
  archive_is : (q : Package) → In q w.packages → is_archive q ≡ true → archive_of w ≡ q.uuid
  archive_is q i a =
      let f : (x : Package) × (find is_archive w.packages ≡ Some x) =
      found is_archive w.packages (any_in is_archive q w.packages i a) in
      let it : In f.0 w.packages × (is_archive f.0 ≡ true) =
      All-found (λ x. In x w.packages) is_archive f.0 w.packages f.1 (In-all w.packages) in
      let same : f.0 ≡ q = two_are_one is_archive f.0 q w.packages (omega (arith, register.archive)) it.0 i it.1 a in
      ap (λ o. option_map_or (λ x. x.uuid) o []) f.1 ∙ ap (λ x. x.uuid) same

  -- what an open split of a package lent: a live package below it
  pub record Lends (p : Package) (r : Receipt) : Type 0 where
    pub loan : Package
    pub live : In loan w.packages
    pub target : r.target ≡ Some loan.uuid
    pub number : r.seq ≡ loan.loan
    pub above : loan.parent ≡ Some p.uuid
    pub depth : loan.depth ≡ p.depth + 1

  pub lends : (p : Package) (r : Receipt) → In p w.packages → In r p.receipts → is_open_among ledger r ≡ true
      → Lends p r
  lends p r i j is_open =
      let entered : In r ledger = in_ledger p r i j in
      let split : is_split r ≡ true = (and_parts (is_split r) (is_some r.target)
      (and_parts (is_split r && is_some r.target) _ is_open).0).0 in
      let child : (child : List ℕ) × (r.target ≡ Some child) × (is_uuid child ≡ true) =
      lends_to r entered split in
      let alive : is_live w child.0 ≡ true = subst (λ o. is_live w (unwrap_or o []) ≡ true) child.1
      (All-In (λ s. is_open_among ledger s ≡ true → is_live w (unwrap_or s.target []) ≡ true) r ledger
      register.open_loans entered is_open) in
      let q : In (holdings w child.0) w.packages × ((holdings w child.0).uuid ≡ child.0) =
      at_all w (λ x. In x w.packages) child.0 (In-all w.packages) alive in
      let target : r.target ≡ Some (holdings w child.0).uuid = child.1 ∙ ap Some (sym q.1) in
      let not_archive : is_archive (holdings w child.0) ≡ true → ⊥ = λ a.
      true≢false (sym (ends_at_some r.target (archive_of w) (target
      ∙ ap Some (sym (archive_is (holdings w child.0) q.0 a))))
      ∙ All-In (λ s. is_split s ≡ true → ends_at s.target (archive_of w) ≡ false) r ledger
      (never_archive (archive_of w) [] ledger register.balanced.ledger) entered split) in
      of_lent (holdings w child.0) q.0 target split entered (some_above (holdings w child.0) not_archive)
    where
      some_above : (q : Package) → (is_archive q ≡ true → ⊥) → (u : List ℕ) × (q.parent ≡ Some u)
      some_above q other = elim q.parent as (λ o. (is_none o ≡ true → ⊥) → (u : List ℕ) × (o ≡ Some u)) [
        | None ↦ λ never. absurd (never refl)
        | Some u ↦ λ _. (u, refl)
      ] other

      of_lent : (q : Package) → In q w.packages → r.target ≡ Some q.uuid → is_split r ≡ true → In r ledger
          → (u : List ℕ) × (q.parent ≡ Some u) → Lends p r
      of_lent q k target split entered u =
          let l : Lent q = lent_by q u.0 k u.1 in
          let same : l.receipt ≡ r = two_are_one (lent_to q.uuid) l.receipt r ledger
          (lent_once w q.uuid register.balanced.ledger) (in_ledger l.parent l.receipt l.live l.stands) entered
          (and_from (is_split l.receipt) (ends_at l.receipt.target q.uuid) l.split
          (ends_at_some l.receipt.target q.uuid l.target))
          (and_from (is_split r) (ends_at r.target q.uuid) split (ends_at_some r.target q.uuid target)) in
          let home : l.parent ≡ p = one_home l.parent p r l.live i
          (subst (λ x. In x l.parent.receipts) same l.stands)
          j in
          record {
            loan = q;
            live = k;
            target = target;
            number = ap (λ x. x.seq) (sym same) ∙ l.number;
            above = l.above ∙ ap (λ x. Some x.uuid) home;
            depth = l.depth ∙ ap (λ x. x.depth + 1) home;
          }
