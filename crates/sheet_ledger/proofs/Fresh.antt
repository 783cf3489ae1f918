-- What receipts add and lend, against what those before them name.
use Rattle.std.specs.Prelude.{◌≡◌, ℕ, Bool, true, false, ◌&&◌, ◌||◌, List, [], ◌∷◌, ◌++◌}
use Rattle.std.specs.Prelude.{Option, Some, None, unwrap_or, bytes_eq, refl}
use Rattle.std.proofs.Common.{sym, ap, ◌∙◌}
use Rattle.std.specs.List.{list_any, AllByRecursion}
use Rattle.std.specs.Ordering.{nat_cmp}
use Rattle.std.specs.Cmp.Lexicographic.{slice_cmp}
use Rattle.std.specs.BTreeSet.{BTreeSet, contains}
use Rattle.sheet_types.specs.Balance.{names_identity}
use Rattle.sheet_types.specs.Custody.{is_add, is_split, ends_at}
use Rattle.sheet_types.specs.declared.receipt.Moved.{Moved}
use Rattle.sheet_types.specs.declared.receipt.Receipt.{Receipt}
use Rattle.sheet_types.proofs.Every.{All-weaker}
use Rattle.sheet_ledger.specs.Parts.{AddsWhatIsNew, LendsNewPackage}

-- nothing that is named is added, by the set or by the receipts
pub new_by_set : (s : BTreeSet (List ℕ)) (rs : List Receipt) (r : Receipt)
    → ((id : List ℕ) → contains (slice_cmp nat_cmp) s id ≡ list_any (names_identity id) rs)
    → (is_add r ≡ true → AllByRecursion (λ m. contains (slice_cmp nat_cmp) s m.base ≡ false) r.items)
    → AddsWhatIsNew rs r
new_by_set s rs r named h adds = All-weaker (λ m. contains (slice_cmp nat_cmp) s m.base ≡ false)
    (λ m. list_any (names_identity m.base) rs ≡ false) (λ m e. sym (named m.base) ∙ e) r.items (h adds)

pub set_by_new : (s : BTreeSet (List ℕ)) (rs : List Receipt) (r : Receipt)
    → ((id : List ℕ) → contains (slice_cmp nat_cmp) s id ≡ list_any (names_identity id) rs)
    → AddsWhatIsNew rs r → is_add r ≡ true → AllByRecursion (λ m. contains (slice_cmp nat_cmp) s m.base
    ≡ false) r.items
set_by_new s rs r named h adds = All-weaker (λ m. list_any (names_identity m.base) rs ≡ false)
    (λ m. contains (slice_cmp nat_cmp) s m.base ≡ false) (λ m e. named m.base ∙ e) r.items (h adds)

-- no package that is lent is lent again, by the set or by the receipts
pub lent_by_set : (s : BTreeSet (List ℕ)) (archive : List ℕ) (rs : List Receipt) (r : Receipt)
    → ((p : List ℕ) → contains (slice_cmp nat_cmp) s p ≡ list_any (λ x. is_split x && ends_at x.target p) rs)
    → (is_split r ≡ true → (contains (slice_cmp nat_cmp) s (unwrap_or r.target []) ≡ false)
    × (ends_at r.target archive ≡ false)) → LendsNewPackage archive rs r
lent_by_set s archive rs r lent h splits = (sym (lent (unwrap_or r.target [])) ∙ (h splits).0, (h splits).1)

pub set_by_lent : (s : BTreeSet (List ℕ)) (archive : List ℕ) (rs : List Receipt) (r : Receipt)
    → ((p : List ℕ) → contains (slice_cmp nat_cmp) s p ≡ list_any (λ x. is_split x && ends_at x.target p) rs)
    → LendsNewPackage archive rs r → is_split r ≡ true → (contains (slice_cmp nat_cmp) s
    (unwrap_or r.target []) ≡ false) × (ends_at r.target archive ≡ false)
set_by_lent s archive rs r lent h splits = (lent (unwrap_or r.target []) ∙ (h splits).0, (h splits).1)

-- a set without the empty key, with one more that is none
pub still_whole : (a b c d : Bool) → d ≡ (a || (b && c)) → a ≡ false → c ≡ false → d ≡ false
still_whole a true c d is x y = is ∙ ap (λ v. v || c) x ∙ y
still_whole a false c d is x y = is ∙ ap (λ v. v || false) x
