-- What each package of a register tells of the whole: whether an identity is used, and which receipt is kept. Profile.
use Rattle.std.specs.Prelude.{◌≡◌, ◌⊎◌, ◌&&◌, ℕ, ◌≤◌, Bool, true, List, [], ◌∷◌, length}
use Rattle.std.specs.Prelude.{Some, None, Contains}
use Rattle.std.specs.List.{list_any, AllByRecursion}
use Rattle.sheet_types.specs.Ordered.{has}
use Rattle.sheet_types.specs.World.{World, Package, receipt_key, receipts_of}
use Rattle.sheet_types.specs.Custody.{is_used, is_split, ends_at, kept}
use Rattle.sheet_types.specs.Register.{IsRegister}
use Rattle.sheet_types.specs.declared.receipt.Receipt.{Receipt}
use Rattle.custody.specs.Receipts.{IsKept, is_named}

-- An identity is used where a receipt of some package names it as that of an item.
abbrev pub UsedIsNamed : Type 0
UsedIsNamed = (w : World) (id : List ℕ) → IsRegister w → is_used w id
    ≡ list_any (λ p. is_named p id) w.packages

-- No receipt is kept for a request of which no package has one.
abbrev pub NoneIsKept : Type 0
NoneIsKept = (w : World) (id : List ℕ) → AllByRecursion (λ p. IsKept p id None) w.packages → kept w id ≡ None

-- The receipt that a package has for a request is the one that is kept.
abbrev pub KeptIsThere : Type 0
KeptIsThere = (w : World) (id : List ℕ) (p : Package) (r : Receipt) → IsRegister w → Contains w.packages p
    → IsKept p id (Some r) → kept w id ≡ Some r

-- There are as many receipts as the greatest number that a package has, or none: where no package has a number past
-- n, and some package has n or n is 0.
abbrev pub NumberIsCount : Type 0
NumberIsCount = (w : World) (n : ℕ) → IsRegister w
    → AllByRecursion (λ p. AllByRecursion (λ r. r.seq ≤ n) p.receipts) w.packages
    → (n ≡ 0) ⊎ (list_any (λ p. has receipt_key (n ∷ []) p.receipts) w.packages ≡ true)
    → length (receipts_of w) ≡ n

-- a split ever made a package of this UUID
abbrev pub ever_lent : World → List ℕ → Bool
ever_lent w id = list_any (λ r. is_split r && ends_at r.target id) (receipts_of w)
