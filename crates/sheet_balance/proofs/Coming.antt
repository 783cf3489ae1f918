-- Where receipts come home, by a ledger that is walked from its last receipt to its first.
use Rattle.std.specs.Prelude.{◌≡◌, ◌↔◌, ◌&&◌, ◌==◌, ◌<◌, ℕ, suc, Bool, true, false, cond}
use Rattle.std.specs.Prelude.{IsTrue, List, [], ◌∷◌, length, Option, Some, None, bytes_eq, nat_lt, unwrap_or}
use Rattle.std.specs.Prelude.{flat_map, refl}
use Rattle.std.proofs.Common.{sym, subst, ap, ◌∙◌, arith, drop, get_or}
use Rattle.std.specs.List.{AllByRecursion}
use Rattle.std.specs.Ordering.{nat_cmp}
use Rattle.std.specs.Cmp.Lexicographic.{slice_cmp}
use Rattle.std.specs.BTreeMap.{BTreeMap, get, Updates}
use Rattle.std.proofs.lemmas.Bool.{false≢true}
use Rattle.std.proofs.lemmas.Bool.Decides.{nat_tests}
use Rattle.std.proofs.Math.Seq.{drop-cons}
use Rattle.sheet_types.specs.Balance.{IsLedger, IsReceiptOf, IsHome, archive_of, home_after, stands_in}
use Rattle.sheet_types.specs.Custody.{is_merge, ends_at, after}
use Rattle.sheet_types.specs.Lines.{entry_from, is_merging}
use Rattle.sheet_types.specs.Ordered.{is_before, IsArranged}
use Rattle.sheet_types.specs.Step.{target_of}
use Rattle.sheet_types.specs.Texts.{Entry, Adds, Deletes, Links, Unlinks, Splits, Merges}
use Rattle.sheet_types.specs.World.{World, Package, receipts_of, receipt_key}
use Rattle.sheet_types.specs.declared.receipt.Receipt.{Receipt}
use Rattle.sheet_types.proofs.Basics.{None≢Some, some_once, some_same}
use Rattle.sheet_types.proofs.Every.{All-weaker, All-both}
use Rattle.sheet_types.proofs.Order.{before_numbers, All-of_arranged}
use Rattle.sheet_laws.proofs.Facts.{ledger_arranged, ledger_entered}
use Rattle.sheet_laws.proofs.Ledger.{by_entry}
use Rattle.sheet_ledger.specs.Parts.{AreAtHome, IsEntered}
use Rattle.sheet_ledger.proofs.Maps.{at_key}
use Rattle.sheet_balance.specs.declared.holders.Holder.{Holder}
use Rattle.sheet_balance.specs.Holders.{IsHolderOf, IsHeldWith}
use Rattle.sheet_balance.specs.Homes.{AreInTurn, HasHome, StandsBy, home_in}
use Rattle.sheet_balance.proofs.Each.{all_flat, all_map, all_where, seen_where}
use Rattle.sheet_balance.proofs.Seen.{same_answer}

-- ---- the receipts after one of a ledger whose numbers rise

lt_itself : (n : ℕ) → nat_lt n n ≡ false
lt_itself n = grind (arith, nat_tests)

lt_other_way : (a b : ℕ) → nat_lt a b ≡ true → nat_lt b a ≡ false
lt_other_way a b e = grind (arith, nat_tests, e)

lt_differs : (a b : ℕ) → nat_lt a b ≡ true → (a == b) ≡ false
lt_differs a b e = grind (arith, nat_tests, e)

same_number : (n : ℕ) → (n == n) ≡ true
same_number n = grind (arith, nat_tests)

-- those of greater number than the first
later : (r : Receipt) (rs : List Receipt) → IsArranged receipt_key (r ∷ rs)
    → AllByRecursion (λ s. nat_lt r.seq s.seq ≡ true) rs
later r rs h = All-weaker (λ s. is_before (receipt_key r) (receipt_key s) ≡ true)
    (λ s. nat_lt r.seq s.seq ≡ true) (λ s b. sym (before_numbers r.seq s.seq) ∙ b) rs h.0

all_pass : (n : ℕ) (rs : List Receipt) → AllByRecursion (λ s. nat_lt n s.seq ≡ true) rs → after n rs ≡ rs
all_pass n [] h = refl
all_pass n (r ∷ rs) h = ap (λ b. cond b (r ∷ after n rs) (after n rs)) h.0
    ∙ ap (λ zs. r ∷ zs) (all_pass n rs h.1)

after_first : (r : Receipt) (rs : List Receipt) → IsArranged receipt_key (r ∷ rs) → after r.seq (r ∷ rs) ≡ rs
after_first r rs h = ap (λ b. cond b (r ∷ after r.seq rs) (after r.seq rs)) (lt_itself r.seq)
    ∙ all_pass r.seq rs (later r rs h)

after_other : (r s : Receipt) (rs : List Receipt) → nat_lt r.seq s.seq ≡ true
    → after s.seq (r ∷ rs) ≡ after s.seq rs
after_other r s rs lt = ap (λ b. cond b (r ∷ after s.seq rs) (after s.seq rs)) (lt_other_way r.seq s.seq lt)

-- the rest of what is in turn
pub in_turn_rest : (r : Receipt) (rs : List Receipt) → AreInTurn (r ∷ rs) → AreInTurn rs
in_turn_rest r rs h = record { entered = h.entered.1; rise = h.rise.1 }

-- ---- one receipt more, in front of the others

pub homes_more : (homes new : BTreeMap ℕ (List ℕ)) (merged : BTreeMap (List ℕ) (List ℕ)) (r : Receipt)
    (rs : List Receipt) → AreInTurn (r ∷ rs) → ((p : List ℕ) → home_in merged p ≡ home_after rs p)
    → ((e : Entry) → entry_from r.line ≡ Some e → (k : ℕ) → get nat_cmp new k
    ≡ cond (r.seq == k) (Some (home_in merged (stands_in e))) (get nat_cmp homes k))
    → AllByRecursion (HasHome homes rs) rs → AllByRecursion (HasHome new (r ∷ rs)) (r ∷ rs)
homes_more homes new merged r rs turn came step h = (
  (
    line.0,
    line.1.says,
    step line.0 line.1.says r.seq ∙ ap (λ b. cond b (Some (home_in merged (stands_in line.0)))
        (get nat_cmp homes r.seq)) (same_number r.seq)
        ∙ ap (λ p. Some p) (came (stands_in line.0)) ∙ ap (λ zs. Some (home_after zs (stands_in line.0)))
        (sym (after_first r rs turn.rise)),
  ),
  All-both (λ s. nat_lt r.seq s.seq ≡ true) (HasHome homes rs) (HasHome new (r ∷ rs)) one rs
      (later r rs turn.rise) h,
)
  where
    line : (e : Entry) × IsReceiptOf r e
    line = turn.entered.0

    one : (s : Receipt) → nat_lt r.seq s.seq ≡ true → HasHome homes rs s → HasHome new (r ∷ rs) s
    one s lt has = (
      has.0,
      has.1,
      step line.0 line.1.says s.seq ∙ ap (λ b. cond b (Some (home_in merged (stands_in line.0)))
          (get nat_cmp homes s.seq)) (lt_differs r.seq s.seq lt)
          ∙ has.2 ∙ ap (λ zs. Some (home_after zs (stands_in has.0))) (sym (after_other r s rs lt)),
    )

pub merged_more : (merged new : BTreeMap (List ℕ) (List ℕ)) (r : Receipt) (rs : List Receipt)
    → ((p : List ℕ) → home_in new p ≡ home_in merged (cond (is_merge r && ends_at r.source p)
    (unwrap_or r.target []) p)) → ((p : List ℕ) → home_in merged p ≡ home_after rs p) → (p : List ℕ)
    → home_in new p ≡ home_after (r ∷ rs) p
merged_more merged new r rs step came p = step p ∙ came (cond (is_merge r && ends_at r.source p)
    (unwrap_or r.target []) p)

-- ---- one step of the walk

-- the receipt and those behind it
pub in_front : (rs : List Receipt) (i : ℕ) (r : Receipt) → i < length rs → r ≡ get_or rs i r
    → drop i rs ≡ r ∷ drop (suc i) rs
in_front rs i r lt is = drop-cons rs i r lt ∙ ap (λ z. z ∷ drop (suc i) rs) (sym is)

pub homes_step : (homes new : BTreeMap ℕ (List ℕ)) (merged : BTreeMap (List ℕ) (List ℕ)) (r : Receipt)
    (rs more : List Receipt) → more ≡ r ∷ rs → (AreInTurn rs → (p : List ℕ)
    → home_in merged p ≡ home_after rs p)
    → ((e : Entry) → entry_from r.line ≡ Some e → (k : ℕ) → get nat_cmp new k
    ≡ cond (r.seq == k) (Some (home_in merged (stands_in e))) (get nat_cmp homes k))
    → (AreInTurn rs → AllByRecursion (HasHome homes rs) rs) → AreInTurn more
    → AllByRecursion (HasHome new more) more
homes_step homes new merged r rs more is came step had turn =
    let now : AreInTurn (r ∷ rs) = subst AreInTurn is turn in
    subst (λ zs. AllByRecursion (HasHome new zs) zs) (sym is)
    (homes_more homes new merged r rs now (came (in_turn_rest r rs now)) step (had (in_turn_rest r rs now)))

pub merged_step : (merged new : BTreeMap (List ℕ) (List ℕ)) (r : Receipt) (rs more : List Receipt)
    → more ≡ r ∷ rs → (IsEntered r → (p : List ℕ) → home_in new p
    ≡ home_in merged (cond (is_merge r && ends_at r.source p) (unwrap_or r.target []) p))
    → (AreInTurn rs → (p : List ℕ) → home_in merged p ≡ home_after rs p) → AreInTurn more
    → (p : List ℕ) → home_in new p ≡ home_after more p
merged_step merged new r rs more is step came turn p =
    let now : AreInTurn (r ∷ rs) = subst AreInTurn is turn in
    merged_more merged new r rs (step now.entered.0) (came (in_turn_rest r rs now)) p
    ∙ ap (λ zs. home_after zs p) (sym is)

-- ---- one merge

-- what is no merge of a package leaves it
pub stays : (merged : BTreeMap (List ℕ) (List ℕ)) (r : Receipt) → is_merge r ≡ false → (p : List ℕ)
    → home_in merged p ≡ home_in merged (cond (is_merge r && ends_at r.source p) (unwrap_or r.target []) p)
stays merged r e p = ap (λ b. home_in merged (cond (b && ends_at r.source p) (unwrap_or r.target []) p)) (sym e)

pub stays_unnamed : (merged : BTreeMap (List ℕ) (List ℕ)) (r : Receipt) → r.source ≡ None → (p : List ℕ)
    → home_in merged p ≡ home_in merged (cond (is_merge r && ends_at r.source p) (unwrap_or r.target []) p)
stays_unnamed merged r e p =
    elim (is_merge r) as (λ b. home_in merged p ≡ home_in merged (cond (b && false) (unwrap_or r.target []) p))
    [ true ↦ refl | false ↦ refl ]
    ∙ ap (λ o. home_in merged (cond (is_merge r && ends_at o p) (unwrap_or r.target []) p)) (sym e)

-- a merge that fits its line has a target
merge_target : (e : Entry) (target : Option (List ℕ)) → is_merging e ≡ true → target ≡ target_of e
    → target ≡ None → ⊥
merge_target (Merges child into ticket) target m is none = None≢Some (sym none ∙ is)
merge_target (Adds p identity kind size digest) target m is none = false≢true m
merge_target (Deletes p identity) target m is none = false≢true m
merge_target (Links p mapping base other) target m is none = false≢true m
merge_target (Unlinks p mapping base other) target m is none = false≢true m
merge_target (Splits p child mode rect) target m is none = false≢true m

pub has_target : (r : Receipt) → IsEntered r → is_merge r ≡ true → r.target ≡ None → ⊥
has_target r e m none = merge_target e.0 r.target (sym (by_entry is_merging r e.0 e.1.says) ∙ m) e.1.comes_to none

-- the source of a merge comes home where its target does
pub comes_home : (merged new : BTreeMap (List ℕ) (List ℕ)) (r : Receipt) (source target home : List ℕ)
    → is_merge r ≡ true → r.source ≡ Some source → r.target ≡ Some target
    → home ≡ home_in merged target
    → Updates (slice_cmp nat_cmp) merged new source (Some home) → (p : List ℕ)
    → home_in new p ≡ home_in merged (cond (is_merge r && ends_at r.source p) (unwrap_or r.target []) p)
comes_home merged new r source target home m from to is put p =
    ap (λ o. unwrap_or o p) (at_key merged new source (Some home) put p)
    ∙ elim (bytes_eq source p) as (λ b. unwrap_or (cond b (Some home) (get (slice_cmp nat_cmp) merged p)) p
    ≡ home_in merged (cond b target p)) [ true ↦ is | false ↦ refl ]
    ∙ sym (ap (λ b. home_in merged (cond (b && ends_at r.source p) (unwrap_or r.target []) p)) m
    ∙ ap (λ o. home_in merged (cond (ends_at o p) (unwrap_or r.target []) p)) from
    ∙ ap (λ o. home_in merged (cond (bytes_eq source p) (unwrap_or o []) p)) to)

-- ---- the answer

-- a ledger that is sound is in turn
in_turn : (archive : List ℕ) (rs : List Receipt) → IsLedger archive [] rs → AreInTurn rs
in_turn archive rs h = record { entered = ledger_entered archive [] rs h; rise = ledger_arranged archive [] rs h }

pub homes_answer : (homes : BTreeMap ℕ (List ℕ)) (ledger : List Receipt) (hs : List Holder) (a : Bool)
    → (AreInTurn ledger → AllByRecursion (HasHome homes ledger) ledger)
    → IsTrue a ↔ AllByRecursion (λ x. AllByRecursion (StandsBy homes x.uuid) x.numbers.items) hs → (w : World)
    → IsHeldWith ledger hs w → IsLedger (archive_of w) [] ledger → IsTrue a ↔ AreAtHome w
homes_answer homes ledger hs a has f w h sound =
    same_answer f (seen_where IsHolderOf (λ p. AllByRecursion (HasHome homes (receipts_of w)) p.receipts)
    (λ x. AllByRecursion (StandsBy homes x.uuid) x.numbers.items) (λ p. AllByRecursion (IsHome w p) p.receipts)
    of_package hs w.packages h.held.packages known)
  where
    known : AllByRecursion (λ p. AllByRecursion (HasHome homes (receipts_of w)) p.receipts) w.packages
    known = (all_flat (HasHome homes (receipts_of w)) (λ p. p.receipts) w.packages).0
        (All-of_arranged receipt_key (HasHome homes (receipts_of w)) (flat_map (λ p. p.receipts) w.packages)
        (subst (λ rs. AllByRecursion (HasHome homes rs) rs) h.whole (has (in_turn (archive_of w) ledger sound))))

    one : (u : List ℕ) (p : Package) → u ≡ p.uuid → (r : Receipt) → HasHome homes (receipts_of w) r
        → StandsBy homes u r.seq ↔ IsHome w p r
    one u p same r home = (
      (λ at. (home.0, home.1, sym same ∙ some_same (sym at ∙ home.2))),
      (λ is. home.2 ∙ ap (λ e. Some (home_after (after r.seq (receipts_of w)) (stands_in e)))
          (some_once (entry_from r.line) home.0 is.0 home.1 is.1) ∙ ap (λ x. Some x) (sym is.2)
          ∙ ap (λ x. Some x) (sym same)),
    )

    of_package : (x : Holder) (p : Package) → IsHolderOf x p → AllByRecursion (HasHome homes (receipts_of w))
        p.receipts → AllByRecursion (StandsBy homes x.uuid) x.numbers.items ↔ AllByRecursion (IsHome w p)
        p.receipts
    of_package x p k all = subst (λ ns. AllByRecursion (StandsBy homes x.uuid) ns ↔ AllByRecursion (IsHome w p)
        p.receipts) (sym k.numbers) (same_answer (all_map (StandsBy homes x.uuid) (λ r. r.seq) p.receipts)
        (all_where (HasHome homes (receipts_of w)) (λ r. StandsBy homes x.uuid r.seq) (IsHome w p)
        (one x.uuid p k.uuid) p.receipts all))
