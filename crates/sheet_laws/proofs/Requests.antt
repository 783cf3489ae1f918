-- What a sound ledger says of identities and of requests: an identity that is named as an item was added, and a
-- request has one receipt at most.
use Rattle.std.specs.Prelude.{◌+◌, length, ◌≡◌, ℕ, ◌≤◌, Bool, true, false, ◌&&◌, ◌||◌, List}
use Rattle.std.specs.Prelude.{[], ◌∷◌, ◌++◌, refl, bytes_eq, Some, None, is_some, count_by}
use Rattle.std.proofs.Common.{sym, ap, ◌∙◌, arith, length-append}
use Rattle.std.proofs.lemmas.Bool.{true≢false, and_parts, and_from, false_from_ne_true}
use Rattle.std.proofs.lemmas.List.Folds.{list_any-append}
use Rattle.std.proofs.lemmas.Slice.Eq.{bytes_eq-Decides}
use Rattle.std.specs.List.{list_any, AllByRecursion}
use Rattle.sheet_types.specs.Ordered.{has}
use Rattle.sheet_types.specs.World.{is_item_kind}
use Rattle.sheet_types.specs.Balance.{IsLedger, IsReceiptOf, names_identity}
use Rattle.sheet_types.specs.Custody.{is_add}
use Rattle.sheet_types.specs.Texts.{Entry}
use Rattle.sheet_types.specs.declared.receipt.Moved.{Moved}
use Rattle.sheet_types.specs.declared.receipt.Receipt.{Receipt}
use Rattle.sheet_types.proofs.Basics.{or-false, or-true}
use Rattle.sheet_types.proofs.Every.{All-both, none_pass, none_any}
use Rattle.sheet_types.proofs.Found.{found, All-found}
use Rattle.sheet_types.proofs.Same.{In, In-all, any_in}
use Rattle.sheet_types.proofs.Sums.{any_none, count-cons}
use Rattle.sheet_laws.proofs.Facts.{added_thing, ledger_entered}
use Rattle.sheet_laws.proofs.Ledger.{never_named}

-- the receipt is of an Add of this identity
abbrev pub adds_identity : List ℕ → Receipt → Bool
adds_identity id r = is_add r && has (λ m. m.base) id r.items

-- such a receipt names the identity as an item
add_names : (id : List ℕ) (r : Receipt) (e : Entry) → IsReceiptOf r e → adds_identity id r ≡ true
    → names_identity id r ≡ true
add_names id r e of h =
    let parts : (is_add r ≡ true) × (has (λ m. m.base) id r.items ≡ true) =
    and_parts (is_add r) (has (λ m. m.base) id r.items) h in
    let m : (m : Moved) × (r.items ≡ m ∷ []) × (is_item_kind m.kind ≡ true) × (m.other ≡ None)
    × (is_some m.fingerprint ≡ true) = added_thing r e of parts.0 in
    let base : bytes_eq m.0.base id ≡ true = sym (or-false (bytes_eq m.0.base id))
    ∙ sym (ap (has (λ x. x.base) id) m.1) ∙ parts.1 in
    ap (list_any (λ x. is_item_kind x.kind && bytes_eq x.base id)) m.1
    ∙ ap (λ b. b || false) (and_from (is_item_kind m.0.kind) (bytes_eq m.0.base id) m.2 base)

-- in a sound ledger an identity was added where it is named as an item
pub added_is_named : (archive id : List ℕ) (rs : List Receipt) → IsLedger archive [] rs
    → list_any (adds_identity id) rs ≡ list_any (names_identity id) rs
added_is_named archive id rs sound =
    elim (list_any (adds_identity id) rs) as (λ v. list_any (adds_identity id) rs ≡ v
    → v ≡ list_any (names_identity id) rs) [
      | true ↦ λ added.
          let s : (s : Receipt) × (_ ≡ Some s) = found (adds_identity id) rs added in
          let Both : Receipt → Type 0 = λ x. ((e : Entry) × IsReceiptOf x e) × In x rs in
          let is : Both s.0 × (adds_identity id s.0 ≡ true) = All-found Both (adds_identity id) s.0 rs s.1
          (All-both (λ x. (e : Entry) × IsReceiptOf x e) (λ x. In x rs) Both (λ x a b. (a, b)) rs
          (ledger_entered archive [] rs sound) (In-all rs)) in
          sym (any_in (names_identity id) s.0 rs is.0.1 (add_names id s.0 is.0.0.0 is.0.0.1 is.1))
      | false ↦ λ never. sym (none_any (names_identity id) rs
          (never_named archive id [] rs sound (none_pass (adds_identity id) rs never) tt tt).0)
    ] refl

-- the receipt is of this request
abbrev pub of_request : List ℕ → Receipt → Bool
of_request id r = bytes_eq r.request id

-- a request that the past has does not come again
no_second : (archive id : List ℕ) (past rs : List Receipt) → IsLedger archive past rs
    → list_any (of_request id) past ≡ true → list_any (of_request id) rs ≡ false
no_second archive id past [] h before = refl
no_second archive id past (r ∷ rs) h before =
    let other : of_request id r ≡ false = false_from_ne_true (of_request id r) (λ same.
    true≢false (sym before ∙ ap (λ k. list_any (of_request k) past)
    (sym ((bytes_eq-Decides r.request id).0 same)) ∙ h.0.new_request)) in
    let later : list_any (of_request id) (past ++ r ∷ []) ≡ true =
    list_any-append (of_request id) past (r ∷ []) ∙ ap (λ b. b || list_any (of_request id) (r ∷ []))
    before in
    ap (λ b. b || list_any (of_request id) rs) other ∙ no_second archive id (past ++ r ∷ []) rs h.1 later

-- a request has one receipt at most
pub one_receipt : (archive id : List ℕ) (past rs : List Receipt) → IsLedger archive past rs
    → count_by (of_request id) rs ≤ 1
one_receipt archive id past [] h = omega arith
one_receipt archive id past (r ∷ rs) h =
    elim (of_request id r) as (λ v. of_request id r ≡ v → count_by (of_request id) (r ∷ rs) ≤ 1) [
      | true ↦ λ e.
          let here : list_any (of_request id) (past ++ r ∷ []) ≡ true =
          list_any-append (of_request id) past (r ∷ [])
          ∙ ap (λ b. list_any (of_request id) past || (b || false)) e
          ∙ or-true (list_any (of_request id) past) in
          omega (
            arith,
            count-cons (of_request id) r rs true e,
            any_none (of_request id) rs
                (no_second archive id (past ++ r ∷ []) rs h.1 here),
          )
      | false ↦ λ e. omega (
        arith,
        count-cons (of_request id) r rs false e,
        one_receipt archive id
            (past ++ r ∷ []) rs h.1,
      )
    ] refl

-- where no number is past n, the receipts are no more than that
pub no_more_than : (archive : List ℕ) (n : ℕ) (past rs : List Receipt) → IsLedger archive past rs
    → AllByRecursion (λ r. r.seq ≤ n) rs → length past ≤ n → length past + length rs ≤ n
no_more_than archive n past [] h within few = omega (arith, few)
no_more_than archive n past (r ∷ rs) h within few =
    omega (
      arith,
      h.0.number,
      within.0,
      length-append past (r ∷ []),
      no_more_than archive n (past ++ r ∷ []) rs
          h.1 within.1 (omega (arith, h.0.number, within.0, length-append past (r ∷ []))),
    )
