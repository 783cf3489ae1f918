-- A command that changes the items and links of one package keeps the account.
use Rattle.std.specs.Prelude.{◌≡◌, ℕ, ◌+◌, ◌<◌, true, false, cond, List, [], ◌∷◌, ◌++◌}
use Rattle.std.specs.Prelude.{refl, bytes_eq, Some, sum_by}
use Rattle.std.proofs.Common.{sym, ap, subst, ◌∙◌}
use Rattle.std.proofs.lemmas.Bool.{true≢false, false≢true, and_parts}
use Rattle.std.specs.List.{AllByRecursion}
use Rattle.sheet_types.specs.Ordered.{IsArranged}
use Rattle.sheet_types.specs.Texts.{Entry}
use Rattle.sheet_types.specs.Lines.{entry_from}
use Rattle.sheet_types.specs.World.{World, Package, package_key, receipt_key, receipts_of, holdings, is_live, changed}
use Rattle.sheet_types.specs.World.{with_receipt}
use Rattle.sheet_types.specs.Custody.{ends_at, is_merge, is_split}
use Rattle.sheet_laws.proofs.Contents.{NoneAltered, IsUnaltered, none_altered, still_unaltered}
use Rattle.sheet_types.specs.Balance.{Balanced, MayFollow, archive_of, IsLoan, stands_in}
use Rattle.sheet_types.specs.Register.{IsRegister, IsKeptPackage, HasParent}
use Rattle.sheet_types.specs.declared.command.Item.{Item}
use Rattle.sheet_types.specs.declared.command.Relation.{Relation}
use Rattle.sheet_types.specs.declared.receipt.Moved.{Moved}
use Rattle.sheet_types.specs.declared.receipt.Receipt.{Receipt}
use Rattle.sheet_types.proofs.Order.{All-put}
use Rattle.sheet_types.proofs.Basics.{bytes_eq_itself, bytes_eq_swap}
use Rattle.sheet_laws.proofs.Packages.{by_place, archive_stays, receipts_gained, with_receipt_gains, AllStand}
use Rattle.sheet_laws.proofs.Packages.{stand_at, stand_all, holdings_changed, changed_arranged, All-changed}
use Rattle.sheet_laws.proofs.Shifting.{weighed, goes, SeesKeys, Shift, balance_kept, of_package, goes_same}
use Rattle.sheet_laws.proofs.Shifting.{numbers_below}
use Rattle.sheet_laws.proofs.Facts.{kept_at, holds_once}
use Rattle.sheet_types.specs.Refuse.{is_archive}
use Rattle.sheet_laws.proofs.Keeping.{loan_stays_with, live_changed, parent_moves, receipts_kept, sum_by-changed}
use Rattle.sheet_laws.proofs.Keeping.{all_live_at, package_moves, open_kept}

-- ---- one package is changed

module _ (w : World) (p : List ℕ) (r : Receipt) (e : Entry) (items : Package → List Item)
    (links : Package → List Relation) where
  abbrev pub change : Package → Package
  change x = with_receipt r (record x { items = items x; links = links x })

  abbrev pub next : World
  next = changed change p w

  pub record Fits : Type 0 where
    pub says : entry_from r.line ≡ Some e
    pub stands : stands_in e ≡ p
    pub live : is_live w p ≡ true
    pub may : MayFollow (archive_of w) (receipts_of w) r
    pub no_merge : is_merge r ≡ false
    pub shifts : (c : Moved → ℕ) → SeesKeys c → weighed c (change (holdings w p)) + cond (ends_at r.source p)
        (sum_by c r.items) 0 ≡ weighed c (holdings w p) + cond (ends_at r.target p) (sum_by c r.items) 0
    pub elsewhere : (q : List ℕ) → bytes_eq p q ≡ false → (ends_at r.source q ≡ false)
        × (ends_at r.target q ≡ false)

  module _ (register : IsRegister w) (fits : Fits) where
    at_next : (q : List ℕ) → holdings next q ≡ cond (bytes_eq q p) (change (holdings w p)) (holdings w q)
    at_next q = holdings_changed change w p q (λ x. refl) fits.live

    pub at_p : holdings next p ≡ change (holdings w p)
    at_p = at_next p ∙ ap (λ b. cond b (change (holdings w p)) (holdings w p)) (bytes_eq_itself p)

    pub at_other : (q : List ℕ) → bytes_eq q p ≡ false → holdings next q ≡ holdings w q
    at_other q b = at_next q ∙ ap (λ v. cond v (change (holdings w p)) (holdings w q)) b

    pub distinct_next : IsArranged package_key next.packages
    distinct_next = changed_arranged change p w.packages (λ x. refl) register.arranged

    shifts : (c : Moved → ℕ) → SeesKeys c → (q : List ℕ) → weighed c (holdings next q) + cond
        (ends_at r.source q) (sum_by c r.items) 0 ≡ weighed c (holdings w q) + cond (ends_at r.target q)
        (sum_by c r.items) 0
    shifts c sees = by_place p (λ q. weighed c (holdings next q) + cond (ends_at r.source q) (sum_by c r.items) 0
        ≡ weighed c (holdings w q) + cond (ends_at r.target q) (sum_by c r.items) 0)
        (rw at_p (fits.shifts c sees))
        (λ q b. let away : (ends_at r.source q ≡ false) × (ends_at r.target q ≡ false) =
        fits.elsewhere q (bytes_eq_swap p q ∙ b) in rw (at_other q b, away.0, away.1) refl)

    carry : (Q : List ℕ → Receipt → Type 0) → AllStand (λ u s. Q (goes r u) s) w → Q (stands_in e) r
        → AllStand Q next
    carry Q h g = stand_all Q next distinct_next (by_place p (λ q. AllByRecursion (Q q) (holdings next q).receipts)
        (subst (λ x. AllByRecursion (Q p) x.receipts) (sym at_p)
        (All-put receipt_key (Q p) r (holdings w p).receipts (subst (λ u. Q u r) fits.stands g) (there p)))
        (λ q b. subst (λ x. AllByRecursion (Q q) x.receipts) (sym (at_other q b)) (there q)))
      where
        there : (q : List ℕ) → AllByRecursion (Q q) (holdings w q).receipts
        there q = subst (λ u. AllByRecursion (Q u) (holdings w q).receipts) (goes_same r fits.no_merge q)
            (stand_at (λ u s. Q (goes r u) s) w q h)

    below : AllByRecursion (λ s. s.seq < r.seq) (receipts_of w)
    below = numbers_below w r.seq register.balanced.ledger fits.may.number

    pub receipts : receipts_of next ≡ receipts_of w ++ r ∷ []
    receipts = receipts_gained change w p r (λ x. with_receipt_gains r x) below register.arranged fits.live

    shift : Shift w next r
    shift = record {
      receipts = receipts;
      archive = archive_stays change p w (λ x. refl) (λ x. refl);
      may = fits.may;
      shifts = shifts;
    }

    loan_kept : (x : Package) → IsLoan w x → IsLoan next x
    loan_kept = loan_stays_with w next p r receipts fits.no_merge (ap (λ y. y.receipts) at_p)
        (λ q b. ap (λ y. y.receipts) (at_other q b))

    pub balance_after : Balanced next
    balance_after = balance_kept w next r e fits.says shift register.balanced (holds_once w register) carry
        (λ m. absurd (true≢false (sym m ∙ fits.no_merge)))
        (All-changed change p (IsLoan w) (IsLoan next) (λ x _ h. loan_kept x h) loan_kept w.packages
        register.balanced.loans)

    pub contents_after : ((x : Package) → AllByRecursion (IsUnaltered next) x.items
        → AllByRecursion (IsUnaltered next) (items x)) → NoneAltered next
    contents_after stay =
        let Sound : Package → Type 0 = λ x. AllByRecursion (IsUnaltered next) x.items in
        let old : AllByRecursion Sound w.packages = still_unaltered w next r receipts register.unaltered in
        All-changed change p Sound Sound (λ x _ h. stay x h) (λ x h. h) w.packages old

    -- ---- the rules of a register

    live_same : (q : List ℕ) → is_live next q ≡ is_live w q
    live_same q = live_changed change p q w.packages (λ x. refl)

    depth_same : (q : List ℕ) → (holdings next q).depth ≡ (holdings w q).depth
    depth_same = by_place p (λ q. (holdings next q).depth ≡ (holdings w q).depth) (ap (λ x. x.depth) at_p)
        (λ q b. ap (λ x. x.depth) (at_other q b))

    parent_stays : (x : Package) → HasParent w x → HasParent next x
    parent_stays x h = parent_moves w next x.parent x.depth x.loan (λ q _ live. (live_same q ∙ live, depth_same q)) h

    pub parent_kept : HasParent next (change (holdings w p))
    parent_kept = parent_stays (holdings w p) (kept_at w p register fits.live).parent

    pub receipts_at_p : IsArranged receipt_key (change (holdings w p)).receipts
    receipts_at_p = receipts_kept r (holdings w p).receipts (kept_at w p register fits.live).receipts
        (of_package (λ s. s.seq < r.seq) w p below)

    pub register_after : IsKeptPackage next (change (holdings w p)) → is_split r ≡ false → NoneAltered next
        → IsRegister next
    register_after changed' no_split unaltered = record {
      frame = register.frame;
      arranged = distinct_next;
      archive = sum_by-changed change (λ x. cond (is_archive x) 1 0) p w.packages (λ x. refl) ∙ register.archive;
      packages = all_live_at next (IsKeptPackage next) distinct_next
          (by_place p (λ q. is_live next q ≡ true → IsKeptPackage next (holdings next q))
          (λ _. subst (IsKeptPackage next) (sym at_p) changed')
          (λ q b live.
          let k : IsKeptPackage w (holdings w q) = kept_at w q register (sym (live_same q) ∙ live) in
          subst (IsKeptPackage next) (sym (at_other q b)) (package_moves w next (holdings w q) refl
          (parent_stays (holdings w q) k.parent) k)));
      open_loans = open_kept w next r receipts below register.open_loans (λ t _ live. live_same t ∙ live)
          (λ open'. absurd (false≢true (sym no_split ∙ (and_parts _ _ (and_parts _ _ open').0).0)));
      balanced = balance_after;
      unaltered = none_altered next unaltered;
    }
