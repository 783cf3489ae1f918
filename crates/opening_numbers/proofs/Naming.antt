-- The numbers that are looked for are those of the receipts that name what a fault is of.
use Rattle.std.specs.Prelude.{◌≡◌, ℕ, zero, suc, true, false, not, List, map, nat_le, bytes_eq, count_by}
use Rattle.std.specs.Prelude.{Contains}
use Rattle.std.specs.Prelude.{refl}
use Rattle.std.proofs.Common.{sym, ap, ◌∙◌, arith}
use Rattle.std.proofs.lemmas.Bool.Decides.{nat_tests}
use Rattle.std.proofs.lemmas.Slice.Eq.{bytes_eq-Decides}
use Rattle.std.specs.Ordering.{nat_cmp}
use Rattle.std.specs.Cmp.Lexicographic.{slice_cmp}
use Rattle.std.specs.BTreeMap.{BTreeMap, get}
use Rattle.sheet_types.specs.Opening.{Claim}
use Rattle.sheet_types.specs.Texts.{uuid_text}
use Rattle.sheet_types.proofs.Same.{In, In-map, In-of_map, Contains-In}
use Rattle.opening_faults.specs.Copies.{told, copies_of}
use Rattle.opening_faults.specs.Sights.{claim_said, claims_seen, is_live_store, is_loan_of}
use Rattle.opening_faults.specs.Splits.{AreOpenSplits, IsOpenSplit, split_made, claim_made, has_key}
use Rattle.opening_faults.specs.declared.copies.Copies.{Copies}
use Rattle.opening_faults.specs.declared.sights.Sight.{Sight}
use Rattle.opening_faults.specs.declared.sights.StoreClaim.{StoreClaim}
use Rattle.opening_faults.specs.declared.splits.OpenSplit.{OpenSplit}
use Rattle.opening_faults.proofs.Choosing.{copies_told, told_doubled, told_missing}
use Rattle.opening_faults.proofs.Members.{contained}
use Rattle.opening_faults.proofs.Turning.{found_headed}
use Rattle.opening_numbers.specs.Numbers.{adds_item, are_so_many, is_count, Among, IsAdditionOf, IsLast, IsOfSplit}
use Rattle.opening_numbers.specs.Numbers.{IsOfStore, IsSplitOf}
use Rattle.opening_numbers.specs.declared.numbers.Loans.{Loans}
use Rattle.opening_numbers.specs.declared.numbers.Loans.TheVariants.{Missing, Present, Doubled}
use Rattle.opening_numbers.proofs.Lasting.{last_same}

-- what is told of a number of loans is enough
told_present : (k : ℕ) → not (are_so_many Missing (told k)) ≡ nat_le 1 k
told_present zero = refl
told_present (suc zero) = refl
told_present (suc (suc k)) = many k
  where
    many : (k : ℕ) → true ≡ nat_le 1 (suc (suc k))
    many k = grind (arith, nat_tests)

tells : (loans : Loans) (k : ℕ) → are_so_many loans (told k) ≡ is_count loans k
tells Missing k = told_missing k
tells Present k = told_present k
tells Doubled k = told_doubled k

-- ---- open splits

module _ (sights : List Sight) (splits : List OpenSplit) (all : AreOpenSplits sights splits)
    (counts : BTreeMap (List ℕ) Copies)
    (counted : (key : List ℕ) → get (slice_cmp nat_cmp) counts key ≡ told (count_by (has_key key) sights))
    (id : List ℕ) (loans : Loans) where
  abbrev Listed : ℕ → Type 0
  Listed = Among (λ split. IsOfSplit id loans (copies_of counts split) split) splits

  many_of : (split : OpenSplit) → are_so_many loans (copies_of counts split)
      ≡ is_count loans (count_by (is_loan_of (claim_made split)) sights)
  many_of split = ap (are_so_many loans) (copies_told sights counts counted split)
      ∙ tells loans (count_by (is_loan_of (claim_made split)) sights)

  to_split : (m : ℕ) → Listed m → IsSplitOf (is_count loans) sights id m
  to_split m (split, there, (text, many, seq)) =
      let made : IsOpenSplit sights split = all.sound split there in
      let c : Claim = made.1 in
      let is : split ≡ split_made split.above c = made.5 in (
        made.0,
        c,
        made.2,
        made.3,
        ap (λ x. x.target) (sym is) ∙ sym ((bytes_eq-Decides (uuid_text id) split.target).0 text),
        ap (λ x. is_count loans (count_by (is_loan_of (claim_made x)) sights)) (sym is) ∙ sym (many_of split)
            ∙ many,
        ap (λ x. x.seq) (sym is) ∙ seq,
      )

  from_split : (m : ℕ) → IsSplitOf (is_count loans) sights id m → Listed m
  from_split m (s, c, there, shown, target, test, seq) =
      let h = found_headed sights shown.0 s shown.1.0 in
      let split = split_made h.0 c in (
        split,
        all.whole s c h.0 there shown h.1,
        ((bytes_eq-Decides (uuid_text id) c.target).1 (sym target), many_of split ∙ test, seq),
      )

  pub splits_last : (n : ℕ) → IsLast Listed n → IsLast (IsSplitOf (is_count loans) sights id) n
  splits_last n h = last_same Listed (IsSplitOf (is_count loans) sights id) to_split from_split n h

-- ---- additions

module _ (sights : List Sight) (id : List ℕ) where
  abbrev Stored : ℕ → Type 0
  Stored = Among (λ s. IsOfStore id (is_live_store sights s) s) sights

  to_addition : (m : ℕ) → Stored m → IsAdditionOf sights id m
  to_addition m (s, there, (lives, (x, has, (adds, seq)))) = (
    s,
    claim_said x,
    there,
    lives,
    Contains-In (claim_said x) (claims_seen s) (In-map claim_said x s.claims.items (contained s.claims.items x has)),
    adds,
    seq,
  )

  from_addition : (m : ℕ) → IsAdditionOf sights id m → Stored m
  from_addition m (s, c, there, lives, has, adds, seq) =
      let r : (x : StoreClaim) × In x s.claims.items × (claim_said x ≡ c) =
      In-of_map claim_said c s.claims.items (contained (claims_seen s) c has) in (
        s,
        there,
        (
          lives,
          (
            r.0,
            Contains-In r.0 s.claims.items r.1,
            (ap (adds_item id) r.2 ∙ adds, ap (λ k. k.seq) r.2 ∙ seq),
          ),
        ),
      )

  pub additions_last : (n : ℕ) → IsLast Stored n → IsLast (IsAdditionOf sights id) n
  additions_last n h = last_same Stored (IsAdditionOf sights id) to_addition from_addition n h
