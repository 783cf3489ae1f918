-- Open loans, receipt by receipt.
use Rattle.std.specs.Prelude.{◌≡◌, ℕ, Bool, true, false, cond, not, ◌&&◌, ◌||◌, List, [], ◌∷◌}
use Rattle.std.specs.Prelude.{◌++◌, map, filter, Option, Some, None, is_some, unwrap_or, bytes_eq, nat_lt, refl}
use Rattle.std.proofs.Common.{sym, ap, ◌∙◌}
use Rattle.std.specs.List.{list_any}
use Rattle.std.specs.Option.{option_map_or}
use Rattle.std.specs.Ordering.{nat_cmp}
use Rattle.std.specs.Cmp.Lexicographic.{slice_cmp}
use Rattle.std.specs.BTreeMap.{BTreeMap, get}
use Rattle.std.proofs.lemmas.List.{append-nil, map-append}
use Rattle.std.proofs.lemmas.List.Elements.{filter-append}
use Rattle.std.proofs.lemmas.List.Folds.{list_any-append}
use Rattle.sheet_types.specs.Custody.{is_split, is_merge, ends_at, after, is_open_among, open_loans}
use Rattle.sheet_types.specs.declared.receipt.Receipt.{Receipt}
use Rattle.sheet_types.proofs.Basics.{or-false}
use Rattle.sheet_ledger.specs.Lending.{is_open_by}

-- a test of a conjunction with a part that fails
pub or_nothing : (b x y : Bool) → b ≡ (b || (x && false && y))
or_nothing true x y = refl
or_nothing false true y = refl
or_nothing false false y = refl

pub or_nothing_first : (b m x y : Bool) → m ≡ false → b ≡ (b || (m && x && y))
or_nothing_first b m x y e = sym (ap (λ v. b || (v && x && y)) e ∙ or-false b)

-- what has no source is no merge of one
pub unnamed : (b m x : Bool) (source : Option (List ℕ)) (p : List ℕ) → source ≡ None
    → b ≡ (b || (m && ends_at source p && x))
unnamed b m x source p e = or_nothing b m x ∙ ap (λ o. b || (m && ends_at o p && x)) (sym e)

-- one receipt alone after a number
any_one : (P : Receipt → Bool) (n : ℕ) (r : Receipt) → list_any P (after n (r ∷ [])) ≡ (P r && nat_lt n r.seq)
any_one P n r = elim (nat_lt n r.seq) as (λ v. list_any P (cond v (r ∷ []) []) ≡ (P r && v)) [
  | true ↦ elim (P r) as (λ b. (b || false) ≡ (b && true)) [ true ↦ refl | false ↦ refl ]
  | false ↦ elim (P r) as (λ b. false ≡ (b && false)) [ true ↦ refl | false ↦ refl ]
]

-- whether one after a number passes, among these and one more
pub any_after_snoc : (P : Receipt → Bool) (n : ℕ) (rs : List Receipt) (r : Receipt)
    → list_any P (after n (rs ++ r ∷ [])) ≡ (list_any P (after n rs) || (P r && nat_lt n r.seq))
any_after_snoc P n rs r =
    ap (list_any P) (filter-append (λ s. nat_lt n s.seq) rs (r ∷ []))
    ∙ list_any-append P (after n rs) (after n (r ∷ [])) ∙ ap (λ b. list_any P (after n rs) || b)
    (any_one P n r)

-- what a map says of the last merges of some receipts
pub record HasLast (merges : BTreeMap (List ℕ) ℕ) (rs : List Receipt) : Type 0 where
  pub last : (p : List ℕ) (n : ℕ) → option_map_or (nat_lt n) (get (slice_cmp nat_cmp) merges p) false
      ≡ list_any (λ r. is_merge r && ends_at r.source p) (after n rs)

-- one more
pub last_more : (m new : BTreeMap (List ℕ) ℕ) (rs more : List Receipt) (r : Receipt) → more ≡ rs ++ r ∷ []
    → ((p : List ℕ) (n : ℕ) → option_map_or (nat_lt n) (get (slice_cmp nat_cmp) m p) false
    ≡ list_any (λ x. is_merge x && ends_at x.source p) (after n rs))
    → ((p : List ℕ) (n : ℕ) → option_map_or (nat_lt n) (get (slice_cmp nat_cmp) new p) false
    ≡ (option_map_or (nat_lt n) (get (slice_cmp nat_cmp) m p) false ||
    (is_merge r && ends_at r.source p && nat_lt n r.seq)))
    → (p : List ℕ) (n : ℕ) → option_map_or (nat_lt n) (get (slice_cmp nat_cmp) new p) false
    ≡ list_any (λ x. is_merge x && ends_at x.source p) (after n more)
last_more m new rs more r is was step p n =
    step p n ∙ ap (λ b. b || (is_merge r && ends_at r.source p && nat_lt n r.seq)) (was p n)
    ∙ sym (ap (λ zs. list_any (λ x. is_merge x && ends_at x.source p) (after n zs)) is
    ∙ any_after_snoc (λ x. is_merge x && ends_at x.source p) n rs r)

-- by the last merges of all receipts a loan is open exactly where it is
pub open_by : (merges : BTreeMap (List ℕ) ℕ) (rs : List Receipt)
    → ((p : List ℕ) (n : ℕ) → option_map_or (nat_lt n) (get (slice_cmp nat_cmp) merges p) false
    ≡ list_any (λ r. is_merge r && ends_at r.source p) (after n rs))
    → (r : Receipt) → is_open_by merges r ≡ is_open_among rs r
open_by merges rs h r = ap (λ b. is_split r && is_some r.target && not b) (h (unwrap_or r.target []) r.seq)

-- the loan of a split
abbrev pub loan_of : Receipt → List ℕ × ℕ
loan_of r = (unwrap_or r.target [], r.seq)

-- one receipt more, and its loan where it is open
pub loans_more : (p q : Receipt → Bool) (done more : List Receipt) (r : Receipt) → more ≡ done ++ r ∷ []
    → p r ≡ q r
    → map loan_of (filter q done) ++ cond (p r) (loan_of r ∷ []) [] ≡ map loan_of (filter q more)
loans_more p q done more r is same =
    ap (λ b. map loan_of (filter q done) ++ cond b (loan_of r ∷ []) []) same
    ∙ ap (λ zs. map loan_of (filter q done) ++ zs) (elim (q r) as
    (λ v. cond v (loan_of r ∷ []) [] ≡ map loan_of (cond v (r ∷ []) []))
    [ true ↦ refl | false ↦ refl ])
    ∙ sym (map-append loan_of (filter q done) (filter q (r ∷ [])))
    ∙ ap (map loan_of) (sym (filter-append q done (r ∷ [])) ∙ sym (ap (filter q) is))
