-- Moments and bounds: that each request keeps them, and what they say of single packages and of strays.
use Rattle.std.specs.Prelude.{◌≡◌, ℕ, ◌+◌, ◌<◌, ◌≤◌, true, false, ◌&&◌, ◌==◌, List, []}
use Rattle.std.specs.Prelude.{◌∷◌, ◌++◌, length, refl, Some}
use Rattle.std.specs.Prelude.{None, MatchOption, ⊤, pos, bytes_eq}
use Rattle.std.proofs.Common.{sym, ap, subst, ◌∙◌, arith}
use Rattle.std.proofs.lemmas.Bool.{true≢false, and_parts, false_from_ne_true}
use Rattle.std.proofs.lemmas.Slice.Eq.{bytes_eq-Decides}
use Rattle.std.specs.List.{AllByRecursion}
use Rattle.std.specs.Option.{option_map_or}
use Rattle.sheet_types.specs.Balance.{IsLedger, IsThing, archive_of}
use Rattle.sheet_types.specs.Custody.{is_open_among}
use Rattle.sheet_types.specs.Matrix.{is_within}
use Rattle.sheet_types.specs.Opening.{Head, claim_of}
use Rattle.sheet_types.specs.Refuse.{greatest_depth}
use Rattle.sheet_types.specs.Register.{IsRegister}
use Rattle.sheet_types.specs.Texts.{uuid_text, is_moment}
use Rattle.sheet_types.specs.World.{World, Package, receipts_of, holdings, is_live}
use Rattle.sheet_types.specs.declared.receipt.Receipt.{Receipt}
use Rattle.sheet_types.proofs.Basics.{bytes_eq_itself}
use Rattle.sheet_types.proofs.Every.{All-weaker, All-both}
use Rattle.sheet_types.proofs.LineReading.{same_uuid}
use Rattle.sheet_types.proofs.Same.{In, In-all, All-In, any_in}
use Rattle.sheet_laws.specs.Laws.{StoreSight}
use Rattle.sheet_laws.proofs.Facts.{ledger_things}
use Rattle.sheet_laws.proofs.Ledger.{ledger_numbers}
use Rattle.opening_laws_model.specs.Beside.{is_loan_of, IsStrayView, IsUnknown}
use Rattle.opening_laws_model.specs.Laws.{UnknownIsStray, PackagesAreInBounds}
use Rattle.opening_laws_model.specs.Timely.{IsTimely, IsSound, IsLevelled, IsInBounds}
use Rattle.opening_laws_model.proofs.Loans.{in_ledger, owner, kept, Lent, lent_by, Lends, lends}

-- ---- strays

-- by the head of a view
headless : (w : World) (v : StoreSight) → v.head ≡ None → IsStrayView w v
headless w v none = record {
  no_root = ap (λ o. option_map_or (λ h. h.depth == 0) o false) none;
  unnamed = All-weaker (λ r. In r (receipts_of w)) (λ r. is_open_among (receipts_of w) r ≡ true
      → is_loan_of (claim_of r) v ≡ false)
      (λ r _ _. ap (λ o. option_map_or (λ h. bytes_eq (uuid_text h.uuid) (claim_of r).target && is_within (pos r.seq)
      (pos r.seq) (pos h.loan)) o false) none) (receipts_of w) (In-all (receipts_of w));
}

unknown : (w : World) (v : StoreSight) (h : Head) → IsRegister w → v.head ≡ Some h → IsUnknown w h
    → IsStrayView w v
unknown w v h register some is = record {
  no_root = ap (λ o. option_map_or (λ x. x.depth == 0) o false) some ∙ is.lent;
  unnamed = All-weaker (λ r. In r (receipts_of w)) (λ r. is_open_among (receipts_of w) r ≡ true
      → is_loan_of (claim_of r) v ≡ false) unnamed (receipts_of w) (In-all (receipts_of w));
}
  where
    unnamed : (r : Receipt) → In r (receipts_of w) → is_open_among (receipts_of w) r ≡ true
        → is_loan_of (claim_of r) v ≡ false
    unnamed r i is_open = false_from_ne_true (is_loan_of (claim_of r) v) (λ makes.
        let o : (p : Package) × In p w.packages × In r p.receipts = owner w register r i in
        let l : Lends w register o.0 r = lends w register o.0 r o.1 o.2 is_open in
        let both : (bytes_eq (uuid_text h.uuid) (claim_of r).target ≡ true)
        × (is_within (pos r.seq) (pos r.seq) (pos h.loan) ≡ true) =
        and_parts (bytes_eq (uuid_text h.uuid) (claim_of r).target) (is_within (pos r.seq) (pos r.seq) (pos h.loan))
        (sym (ap (λ x. option_map_or (λ y. bytes_eq (uuid_text y.uuid) (claim_of r).target && is_within (pos r.seq)
        (pos r.seq) (pos y.loan)) x false) some) ∙ makes) in
        let text : uuid_text h.uuid ≡ uuid_text l.loan.uuid =
        (bytes_eq-Decides (uuid_text h.uuid) (claim_of r).target).0 both.0
        ∙ ap (λ x. option_map_or uuid_text x []) l.target in
        let same : h.uuid ≡ l.loan.uuid = same_uuid h.uuid l.loan.uuid is.uuid (kept w register l.loan l.live).uuid
        text in
        true≢false (sym (any_in (λ p. bytes_eq p.uuid h.uuid) l.loan w.packages l.live
        (subst (λ u. bytes_eq u h.uuid ≡ true) same (bytes_eq_itself h.uuid))) ∙ is.apart))

pub unknown_is_stray : UnknownIsStray
unknown_is_stray w v register h =
    elim v.head as (λ o. v.head ≡ o → MatchOption o ⊤ (IsUnknown w) → IsStrayView w v) [
      | None ↦ λ none _. headless w v none
      | Some x ↦ λ some is. unknown w v x register some is
    ] refl h

-- ---- packages

-- numbers begin with 1
above_none : (archive : List ℕ) (past rs : List Receipt) → IsLedger archive past rs
    → AllByRecursion (λ r. 1 ≤ r.seq) rs
above_none archive past [] h = tt
above_none archive past (r ∷ rs) h = (omega (arith, h.0.number), above_none archive (past ++ r ∷ []) rs h.1)

module _ (w : World) (register : IsRegister w) (timely : IsTimely w) where
  sound : AllByRecursion IsSound (receipts_of w)
  sound =
      let ledger = register.balanced.ledger in
      let low : AllByRecursion (λ r. 1 ≤ r.seq) (receipts_of w) =
      above_none (archive_of w) [] (receipts_of w) ledger in
      let high : AllByRecursion (λ r. r.seq < length {A = Receipt} [] + length (receipts_of w) + 1) (receipts_of w) =
      ledger_numbers (archive_of w) [] (receipts_of w) ledger in
      let things : AllByRecursion (λ r. AllByRecursion IsThing r.items) (receipts_of w) =
      ledger_things (archive_of w) [] (receipts_of w) ledger in
      All-both (λ r. (1 ≤ r.seq) × (r.seq < length {A = Receipt} [] + length (receipts_of w) + 1))
      (λ r. (is_moment r.at ≡ true) × AllByRecursion IsThing r.items) IsSound
      (λ r a b. record { low = a.0; high = omega (arith, a.1, timely.counted); moment = b.0; things = b.1 })
      (receipts_of w)
      (All-both (λ r. 1 ≤ r.seq) (λ r. r.seq < length {A = Receipt} [] + length (receipts_of w) + 1)
      (λ r. (1 ≤ r.seq) × (r.seq < length {A = Receipt} [] + length (receipts_of w) + 1)) (λ r a b. (a, b))
      (receipts_of w) low high)
      (All-both (λ r. is_moment r.at ≡ true) (λ r. AllByRecursion IsThing r.items)
      (λ r. (is_moment r.at ≡ true) × AllByRecursion IsThing r.items) (λ r a b. (a, b)) (receipts_of w)
      timely.moments things)

  sound_at : (p : Package) (r : Receipt) → In p w.packages → In r p.receipts → IsSound r
  sound_at p r i j = All-In IsSound r (receipts_of w) sound (in_ledger w register p r i j)

  levelled : (p : Package) → In p w.packages → IsLevelled p
  levelled p i =
      elim p.parent as (λ o. p.parent ≡ o → IsLevelled p) [
        | None ↦ λ none.
            let root : (p.depth ≡ 0) × (p.loan ≡ 0) = subst (λ o. MatchOption o
            ((p.depth ≡ 0) × (p.loan ≡ 0))
            (λ u. (is_live w u ≡ true) × (p.depth ≡ (holdings w u).depth + 1) × (p.depth ≤ greatest_depth)))
            none (kept w register p i).parent in
            record {
              depth = omega (arith, root.0);
              loan = omega (arith, root.1);
              level =
                  subst (λ o. MatchOption o ((p.depth ≡ 0) × (p.loan ≡ 0))
                  (λ _. (1 ≤ p.depth) × (1 ≤ p.loan)))
                  (sym none) root;
            }
        | Some u ↦ λ some.
            let below : (is_live w u ≡ true) × (p.depth ≡ (holdings w u).depth + 1)
            × (p.depth ≤ greatest_depth) =
            subst (λ o. MatchOption o ((p.depth ≡ 0) × (p.loan ≡ 0))
            (λ x. (is_live w x ≡ true) × (p.depth ≡ (holdings w x).depth + 1) × (p.depth ≤ greatest_depth)))
            some
            (kept w register p i).parent in
            let l : Lent w register p = lent_by w register p u i some in
            let s : IsSound l.receipt = sound_at l.parent l.receipt l.live l.stands in
            let deep : 1 ≤ p.depth = omega (arith, below.1) in
            let lent : 1 ≤ p.loan = omega (arith, l.number, s.low) in
            record {
              depth = below.2;
              loan = omega (arith, l.number, s.high);
              level =
                  subst (λ o. MatchOption o ((p.depth ≡ 0) × (p.loan ≡ 0))
                  (λ _. (1 ≤ p.depth) × (1 ≤ p.loan)))
                  (sym some) (deep, lent);
            }
      ] refl

  in_bounds : AllByRecursion IsInBounds w.packages
  in_bounds = All-weaker (λ p. In p w.packages) IsInBounds
      (λ p i. record {
        levelled = levelled p i;
        receipts = All-weaker (λ r. In r p.receipts) IsSound
            (λ r j. sound_at p r i j) p.receipts (In-all p.receipts);
      }) w.packages (In-all w.packages)

pub packages_are_in_bounds : PackagesAreInBounds
packages_are_in_bounds w register timely = in_bounds w register timely
