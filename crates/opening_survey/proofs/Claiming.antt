-- What receipts claim is what their rows claim.
use Rattle.std.proofs.Common.{◌≡◌, ◌∙◌, ℕ, List, [], ◌∷◌, map, true, ap}
use Rattle.sqlite_trees.proofs.ListLemmas.{map-map}
use Rattle.sheet_types.specs.Opening.{claim_of}
use Rattle.sheet_types.specs.Ordered.{IsArranged, is_before}
use Rattle.sheet_types.specs.declared.receipt.Receipt.{Receipt}
use Rattle.sheet_types.proofs.Every.{All-map}
use Rattle.package_tables.specs.Damaged.{claim_of_row}
use Rattle.package_tables.specs.Package.{Tables}
use Rattle.package_tables.specs.Shapes.{receipt_shape}
use Rattle.identity_register.specs.Reads.{receipt_row}
use Rattle.package_receipts.specs.Read.{AreSaid}
use Rattle.package_receipts.proofs.Saying.{arranged_already}

-- what is arranged by a key of what it becomes becomes an arranged list
arranged_map : {X Y : Type 0} (key : Y → List ℕ) (f : X → Y) (xs : List X) → IsArranged (λ x. key (f x)) xs
    → IsArranged key (map f xs)
arranged_map key f [] h = tt
arranged_map key f (x ∷ xs) h = (
  All-map (λ y. is_before (key (f x)) (key y) ≡ true) f xs h.0,
  arranged_map key f xs
      h.1,
)

-- receipts in the order of their numbers have their rows in that order
pub rows_are : (t : Tables) (receipts : List Receipt) → AreSaid t receipts → t.receipts ≡ map receipt_row receipts
rows_are t receipts said = said.says.receipts ∙ arranged_already receipt_shape.key (map receipt_row receipts)
    (arranged_map receipt_shape.key receipt_row receipts said.order)

pub claims_are : (t : Tables) (receipts : List Receipt) → AreSaid t receipts
    → map claim_of_row t.receipts ≡ map claim_of receipts
claims_are t receipts said = ap (map claim_of_row) (rows_are t receipts said)
    ∙ map-map claim_of_row receipt_row receipts
