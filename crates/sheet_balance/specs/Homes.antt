-- Where receipts stand, by a ledger that is walked from its last receipt to its first. Profile.
use Rattle.std.specs.Prelude.{◌≡◌, ℕ, List, Some, unwrap_or}
use Rattle.std.specs.List.{AllByRecursion}
use Rattle.std.specs.Ordering.{nat_cmp}
use Rattle.std.specs.Cmp.Lexicographic.{slice_cmp}
use Rattle.std.specs.BTreeMap.{BTreeMap, get}
use Rattle.sheet_types.specs.Balance.{home_after, stands_in}
use Rattle.sheet_types.specs.Custody.{after}
use Rattle.sheet_types.specs.Lines.{entry_from}
use Rattle.sheet_types.specs.Ordered.{IsArranged}
use Rattle.sheet_types.specs.Texts.{Entry}
use Rattle.sheet_types.specs.World.{receipt_key}
use Rattle.sheet_types.specs.declared.receipt.Receipt.{Receipt}
use Rattle.sheet_ledger.specs.Parts.{IsEntered}

-- each fits its line, and their numbers rise
pub record AreInTurn (rs : List Receipt) : Type 0 where
  pub entered : AllByRecursion IsEntered rs
  pub rise : IsArranged receipt_key rs

-- where a package came home by a map of merges; where it was, if the map has none of it
abbrev pub home_in : BTreeMap (List ℕ) (List ℕ) → List ℕ → List ℕ
home_in merged p = unwrap_or (get (slice_cmp nat_cmp) merged p) p

-- under the number of the receipt the map has the package in which it ought to stand: where it was made, or where the
-- merges among these of greater number brought it
abbrev pub HasHome : BTreeMap ℕ (List ℕ) → List Receipt → Receipt → Type 0
HasHome homes rs r = (e : Entry) × (entry_from r.line ≡ Some e)
    × (get nat_cmp homes r.seq ≡ Some (home_after (after r.seq rs) (stands_in e)))

-- the receipt of this number stands in this package, by such a map
abbrev pub StandsBy : BTreeMap ℕ (List ℕ) → List ℕ → ℕ → Type 0
StandsBy homes p n = get nat_cmp homes n ≡ Some p
