-- Which stores a register can do without. Profile.
use Rattle.std.specs.Prelude.{ℕ, Bool, false, not, ◌&&◌, ◌||◌, ◌==◌, bytes_eq, List}
use Rattle.std.specs.List.{list_any, list_all}
use Rattle.std.specs.Option.{option_map_or}
use Rattle.sheet_types.specs.Custody.{ends_at}
use Rattle.sheet_types.specs.declared.receipt.Receipt.{Receipt}
use Rattle.opening_faults.specs.declared.sights.StoreHead.{StoreHead}
use Rattle.opening_verdict.specs.declared.seen.StoreSeen.{StoreSeen}

-- the same receipt: its number, its request and its line
abbrev pub is_entry : Receipt → Receipt → Bool
is_entry a b = (a.seq == b.seq) && bytes_eq a.request b.request && bytes_eq a.line b.line

-- it stands in the ledger
abbrev pub is_kept : List Receipt → Receipt → Bool
is_kept ledger r = list_any (λ other. is_entry other r) ledger

abbrev pub are_kept : List Receipt → List Receipt → Bool
are_kept ledger receipts = list_all (λ r. is_kept ledger r) receipts

abbrev pub is_among : List ℕ → List (List ℕ) → Bool
is_among p packages = list_any (λ other. bytes_eq other p) packages

-- a package of the register: it lives, or something came to it once
abbrev pub is_known : List ℕ → List Receipt → List (List ℕ) → Bool
is_known p ledger live = is_among p live || list_any (λ r. ends_at r.target p) ledger

-- the head says that the store is this package's, which one of the register lent
abbrev pub is_own_loan : List ℕ → StoreHead → List Receipt → List (List ℕ) → Bool
is_own_loan p head ledger live =
    option_map_or (λ parent. bytes_eq head.uuid p && is_known parent ledger live) head.parent false

-- A store in the file of this package is one that the register can do without. It is a whole package, and says that
-- it is this one, lent by one of the register; the package does not live; and each receipt in it stands in the ledger
-- too.
abbrev pub is_spent : List ℕ → StoreSeen → List Receipt → List (List ℕ) → Bool
is_spent p store ledger live =
    store.is_formed && store.is_tied && not (is_among p live)
    && option_map_or (λ head. is_own_loan p head ledger live) store.sight.head false
    && are_kept ledger store.held.receipts.items
