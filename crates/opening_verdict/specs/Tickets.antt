-- The last receipt that names a package, by a map of numbers. Profile.
use Rattle.std.specs.Prelude.{◌≡◌, ℕ, List, fold, if◌then◌else◌, unwrap_or, max}
use Rattle.std.specs.Ordering.{nat_cmp}
use Rattle.std.specs.Cmp.Lexicographic.{slice_cmp}
use Rattle.std.specs.BTreeMap.{BTreeMap, get}
use Rattle.sheet_types.specs.Custody.{names_package}
use Rattle.sheet_types.specs.declared.receipt.Receipt.{Receipt}

-- what a map has under a package; 0 where it has none
abbrev pub last_in : BTreeMap (List ℕ) ℕ → List ℕ → ℕ
last_in last p = unwrap_or (get (slice_cmp nat_cmp) last p) 0

-- the greatest number of a receipt among these that names the package, or 0: of the receipts of a world its ticket
abbrev pub last_naming : List ℕ → List Receipt → ℕ
last_naming p receipts = fold (λ n r. if names_package p r then max n r.seq else n) 0 receipts

-- the map has it of each package
abbrev pub TellsLast : BTreeMap (List ℕ) ℕ → List Receipt → Type 0
TellsLast last receipts = (p : List ℕ) → last_in last p ≡ last_naming p receipts
