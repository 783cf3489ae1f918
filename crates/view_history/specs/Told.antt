-- What packages tell: the receipts of all of them, and the moment of one receipt. Profile.
use Rattle.std.specs.Prelude.{◌≡◌, ℕ, zero, suc, ℤ, pos, negsuc, List, [], ◌∷◌, flat_map, fold}
use Rattle.std.specs.Prelude.{Option, Some, None}
use Rattle.std.specs.Prelude.{option_map, if◌then◌else◌}
use Rattle.std.specs.Ordering.{int_eq}
use Rattle.sheet_types.specs.Ordered.{arranged, entry}
use Rattle.sheet_types.specs.World.{Package, receipt_key}
use Rattle.sheet_types.specs.declared.receipt.Receipt.{Receipt}
use Rattle.package_tables.specs.declared.rows.HeadRow.{HeadRow}
use Rattle.package_tables.specs.declared.rows.ReceiptRow.{ReceiptRow}

-- the receipts of packages, in the order of their numbers: of a world's packages, those of the world
abbrev pub ledger_of : List Package → List Receipt
ledger_of packages = arranged receipt_key (flat_map (λ p. p.receipts) packages)

-- the moment of the receipt of this number, if there is one
abbrev pub moment_of : List Receipt → ℕ → Option (List ℕ)
moment_of receipts seq = option_map (λ r. r.at) (entry receipt_key (seq ∷ []) receipts)

-- the one, or where it is none the other
abbrev pub either : {X : Type 0} → Option X → Option X → Option X
either (Some x) other = Some x
either None other = other

-- the first that is there
abbrev pub first_found : {X : Type 0} → List (Option X) → Option X
first_found found = fold either None found

-- the number before another
abbrev pub before_of : ℕ → ℤ
before_of zero = negsuc 0
before_of (suc n) = pos n

-- the moment of a row, if it is of this number
abbrev pub moment_in : ReceiptRow → ℤ → Option (List ℕ)
moment_in row seq = if int_eq row.seq seq then Some row.at else None

-- one head is there, and says this loan
abbrev pub IsLoanIn : List HeadRow → ℕ → Type 0
IsLoanIn heads loan = (row : HeadRow) × (heads ≡ row ∷ []) × (row.loan ≡ pos loan)
