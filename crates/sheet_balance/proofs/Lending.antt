-- Loans, by the last merges and the splits that are seen.
use Rattle.std.specs.Prelude.{◌≡◌, ◌↔◌, ◌&&◌, ◌||◌, ◌==◌, ⊤, ℕ, Bool, true, false, cond}
use Rattle.std.specs.Prelude.{not, IsTrue, List, [], ◌∷◌, Option, Some, None, bytes_eq, nat_lt, unwrap_or, refl}
use Rattle.std.proofs.Common.{sym, subst, ap, ◌∙◌}
use Rattle.std.specs.List.{list_any, AllByRecursion}
use Rattle.std.specs.Option.{MatchOption, option_map_or}
use Rattle.std.specs.Ordering.{nat_cmp}
use Rattle.std.specs.Cmp.Lexicographic.{slice_cmp}
use Rattle.std.specs.BTreeMap.{BTreeMap, get}
use Rattle.std.proofs.lemmas.Bool.{and_parts}
use Rattle.std.proofs.lemmas.List.Folds.{list_any-append}
use Rattle.std.proofs.lemmas.Slice.Eq.{bytes_eq-Decides}
use Rattle.sheet_types.specs.Custody.{is_split, is_merge, ends_at, after}
use Rattle.sheet_types.specs.Balance.{IsLoan}
use Rattle.sheet_types.specs.Ordered.{is_before, entry, IsArranged}
use Rattle.sheet_types.specs.World.{World, Package, holdings, no_package, package_key, receipts_of}
use Rattle.sheet_types.specs.declared.receipt.Receipt.{Receipt}
use Rattle.sheet_types.proofs.Basics.{or-false, not_true, before-differs, bytes_eq_swap}
use Rattle.sheet_types.proofs.Every.{All-weaker}
use Rattle.sheet_ledger.specs.Parts.{AreLoans}
use Rattle.sheet_balance.specs.declared.holders.Holder.{Holder}
use Rattle.sheet_balance.specs.declared.splits.Lent.{Lent}
use Rattle.sheet_balance.specs.Holders.{IsHolderOf, IsHeldWith}
use Rattle.sheet_balance.specs.Splits.{lents_in, lent_of, lents_by, lents_among, lents_held, HasSplits, IsLoanBy}
use Rattle.sheet_balance.proofs.Each.{all_seen}
use Rattle.sheet_balance.proofs.Seen.{same_answer}
use Rattle.sheet_balance.proofs.Splitting.{Splits}

-- the split of this target and number is among them
abbrev has_split : List Receipt → List ℕ → ℕ → Bool
has_split rs target seq = list_any (λ r. is_split r && ends_at r.target target && (r.seq == seq)) rs

-- the split of this number that stands in this package
abbrev pub is_lent : List ℕ → ℕ → Lent → Bool
is_lent home seq l = bytes_eq l.home home && (l.seq == seq)

-- a split, its target, its number, the package in which it stands, and the others
tests : (s t n b h : Bool) (l : Lent) (q : Lent → Bool) → q l ≡ (b && n)
    → (list_any q (cond (s && t) (l ∷ []) []) || (b && h)) ≡ (b && ((s && t && n) || h))
tests false t n b h l q e = refl
tests true false n b h l q e = refl
tests true true n b h l q e = ap (λ v. (v || false) || (b && h)) e ∙ both n b h
  where
    both : (n b h : Bool) → (((b && n) || false) || (b && h)) ≡ (b && (n || h))
    both n false h = refl
    both true true h = refl
    both false true h = refl

-- among the splits of a package is this one where it is this package and has it
lent_among : (parent home target : List ℕ) (seq : ℕ) (rs : List Receipt)
    → list_any (is_lent parent seq) (lents_among home target rs)
    ≡ (bytes_eq home parent && has_split rs target seq)
lent_among parent home target seq [] = elim (bytes_eq home parent) as (λ b. false ≡ (b && false))
    [ true ↦ refl | false ↦ refl ]
lent_among parent home target seq (r ∷ rs) =
    list_any-append (is_lent parent seq) (lents_by home target r) (lents_among home target rs)
    ∙ ap (λ b. list_any (is_lent parent seq) (lents_by home target r) || b) (lent_among parent home target seq rs)
    ∙ tests (is_split r) (ends_at r.target target) (r.seq == seq) (bytes_eq home parent) (has_split rs target seq)
    (lent_of home r) (is_lent parent seq) refl

-- no package is this one, so none of the splits stands there
none_lent : (parent target : List ℕ) (seq : ℕ) (ps : List Package)
    → AllByRecursion (λ p. bytes_eq p.uuid parent ≡ false) ps
    → list_any (is_lent parent seq) (lents_held target ps) ≡ false
none_lent parent target seq [] h = refl
none_lent parent target seq (p ∷ ps) h =
    list_any-append (is_lent parent seq) (lents_among p.uuid target p.receipts) (lents_held target ps)
    ∙ ap (λ b. b || list_any (is_lent parent seq) (lents_held target ps))
    (lent_among parent p.uuid target seq p.receipts ∙ ap (λ b. b && has_split p.receipts target seq) h.0)
    ∙ none_lent parent target seq ps h.1

-- a split that stands in a package is among the receipts of that package
lent_there : (parent target : List ℕ) (seq : ℕ) (ps : List Package) → IsArranged package_key ps
    → list_any (is_lent parent seq) (lents_held target ps)
    ≡ has_split (unwrap_or (entry package_key parent ps) no_package).receipts target seq
lent_there parent target seq [] h = refl
lent_there parent target seq (p ∷ ps) h =
    list_any-append (is_lent parent seq) (lents_among p.uuid target p.receipts) (lents_held target ps)
    ∙ ap (λ b. b || list_any (is_lent parent seq) (lents_held target ps))
    (lent_among parent p.uuid target seq p.receipts)
    ∙ elim (bytes_eq p.uuid parent) as (λ b. bytes_eq p.uuid parent ≡ b
    → ((b && has_split p.receipts target seq) || list_any (is_lent parent seq) (lents_held target ps))
    ≡ has_split (unwrap_or (cond b (Some p) (entry package_key parent ps)) no_package).receipts target seq) [
      | true ↦ λ e. ap (λ b. has_split p.receipts target seq || b)
          (none_lent parent target seq ps (others e)) ∙ or-false (has_split p.receipts target seq)
      | false ↦ λ _. lent_there parent target seq ps h.1
    ] refl
  where
    others : bytes_eq p.uuid parent ≡ true → AllByRecursion (λ x. bytes_eq x.uuid parent ≡ false) ps
    others e = All-weaker (λ x. is_before p.uuid x.uuid ≡ true) (λ x. bytes_eq x.uuid parent ≡ false)
        (λ x b. subst (λ u. bytes_eq x.uuid u ≡ false) ((bytes_eq-Decides p.uuid parent).0 e)
        (bytes_eq_swap x.uuid p.uuid ∙ before-differs p.uuid x.uuid b)) ps h.0

-- ---- one package with a parent

pub loan_by : (merges : BTreeMap (List ℕ) ℕ) (splits : Splits) (s : Holder) (parent : List ℕ) (lents : List Lent)
    (a b : Bool) → s.parent ≡ Some parent → lents ≡ lents_in splits s.uuid
    → a ≡ list_any (is_lent parent s.loan) lents → b ≡ not (option_map_or (nat_lt s.loan)
    (get (slice_cmp nat_cmp) merges s.uuid) false) → IsTrue (a && b) ↔ IsLoanBy merges splits s
loan_by merges splits s parent lents a b is same first second =
    subst (λ o. IsTrue (a && b) ↔ MatchOption o ⊤ (λ q. (list_any (is_lent q s.loan) (lents_in splits s.uuid)
    ≡ true) × (option_map_or (nat_lt s.loan) (get (slice_cmp nat_cmp) merges s.uuid) false ≡ false)))
    (sym is) (there, back)
  where
    said : a ≡ list_any (is_lent parent s.loan) (lents_in splits s.uuid)
    said = first ∙ ap (list_any (is_lent parent s.loan)) same

    there : (a && b) ≡ true → (list_any (is_lent parent s.loan) (lents_in splits s.uuid) ≡ true)
        × (option_map_or (nat_lt s.loan) (get (slice_cmp nat_cmp) merges s.uuid) false ≡ false)
    there e =
        let parts : (a ≡ true) × (b ≡ true) = and_parts a b e in (
          sym said ∙ parts.0,
          not_true (option_map_or (nat_lt s.loan) (get (slice_cmp nat_cmp) merges s.uuid) false)
              (sym second ∙ parts.1),
        )

    back : (list_any (is_lent parent s.loan) (lents_in splits s.uuid) ≡ true)
        × (option_map_or (nat_lt s.loan) (get (slice_cmp nat_cmp) merges s.uuid) false ≡ false)
        → (a && b) ≡ true
    back x = ap (λ v. v && b) (said ∙ x.0) ∙ second ∙ ap not x.1

-- ---- the answer

pub loans_answer : (merges : BTreeMap (List ℕ) ℕ) (splits : Splits) (ledger : List Receipt) (hs : List Holder)
    (a : Bool)
    → ((p : List ℕ) (n : ℕ) → option_map_or (nat_lt n) (get (slice_cmp nat_cmp) merges p) false
    ≡ list_any (λ r. is_merge r && ends_at r.source p) (after n ledger))
    → IsTrue a ↔ AllByRecursion (IsLoanBy merges splits) hs → (w : World) → IsHeldWith ledger hs w
    → HasSplits splits w → IsTrue a ↔ AreLoans w
loans_answer merges splits ledger hs a last f w h lents =
    same_answer f (all_seen IsHolderOf (IsLoanBy merges splits) (IsLoan w) one hs w.packages h.held.packages)
  where
    -- of a package with this UUID and number
    stands : (u parent : List ℕ) (n : ℕ) → list_any (is_lent parent n) (lents_in splits u)
        ≡ has_split (holdings w parent).receipts u n
    stands u parent n = ap (list_any (is_lent parent n)) (lents u)
        ∙ lent_there parent u n w.packages h.held.in_order

    undone : (u : List ℕ) (n : ℕ) → option_map_or (nat_lt n) (get (slice_cmp nat_cmp) merges u) false
        ≡ list_any (λ r. is_merge r && ends_at r.source u) (after n (receipts_of w))
    undone u n = last u n ∙ ap (λ rs. list_any (λ r. is_merge r && ends_at r.source u) (after n rs)) h.whole

    by_parent : (u : List ℕ) (n : ℕ) (o : Option (List ℕ)) → MatchOption o ⊤
        (λ parent. (list_any (is_lent parent n) (lents_in splits u) ≡ true)
        × (option_map_or (nat_lt n) (get (slice_cmp nat_cmp) merges u) false ≡ false))
        ↔ MatchOption o ⊤ (λ parent. (has_split (holdings w parent).receipts u n ≡ true)
        × (list_any (λ r. is_merge r && ends_at r.source u) (after n (receipts_of w)) ≡ false))
    by_parent u n None = ((λ x. x), (λ x. x))
    by_parent u n (Some parent) = (
      (λ x. (sym (stands u parent n) ∙ x.0, sym (undone u n) ∙ x.1)),
      (λ x. (stands u parent n ∙ x.0, undone u n ∙ x.1)),
    )

    one : (x : Holder) (p : Package) → IsHolderOf x p → IsLoanBy merges splits x ↔ IsLoan w p
    one x p k =
        let is_one : (MatchOption x.parent ⊤ (λ parent. (has_split (holdings w parent).receipts x.uuid x.loan
        ≡ true) × (list_any (λ r. is_merge r && ends_at r.source x.uuid) (after x.loan (receipts_of w)) ≡ false)))
        ≡ IsLoan w p =
        ap (λ o. MatchOption o ⊤ (λ parent. (has_split (holdings w parent).receipts x.uuid x.loan ≡ true)
        × (list_any (λ r. is_merge r && ends_at r.source x.uuid) (after x.loan (receipts_of w)) ≡ false))) k.parent
        ∙ ap (λ u. MatchOption p.parent ⊤ (λ parent. (has_split (holdings w parent).receipts u x.loan ≡ true)
        × (list_any (λ r. is_merge r && ends_at r.source u) (after x.loan (receipts_of w)) ≡ false))) k.uuid
        ∙ ap (λ n. MatchOption p.parent ⊤ (λ parent. (has_split (holdings w parent).receipts p.uuid n ≡ true)
        × (list_any (λ r. is_merge r && ends_at r.source p.uuid) (after n (receipts_of w)) ≡ false))) k.loan in
        subst (λ T. IsLoanBy merges splits x ↔ T) is_one (by_parent x.uuid x.loan x.parent)
