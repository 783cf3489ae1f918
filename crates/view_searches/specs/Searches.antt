-- The items that ever were, as receipts name them. Profile.
use Rattle.std.specs.Prelude.{ℕ, List, [], map, filter, flat_map, Option, Some, None}
use Rattle.sheet_types.specs.World.{is_item_kind}
use Rattle.sheet_types.specs.declared.receipt.Moved.{Moved}
use Rattle.sheet_types.specs.declared.receipt.Receipt.{Receipt}

-- the identities of the items among things that moved
abbrev pub identities_of : List Moved → List (List ℕ)
identities_of things = map (λ (m : Moved). m.base) (filter (λ (m : Moved). is_item_kind m.kind) things)

-- those of a receipt by which they came from no package
abbrev pub added_from : Option (List ℕ) → List Moved → List (List ℕ)
added_from None things = identities_of things
added_from (Some source) things = []

abbrev pub added_by : Receipt → List (List ℕ)
added_by r = added_from r.source r.items

-- those of all receipts, in their order
abbrev pub added_of : List Receipt → List (List ℕ)
added_of receipts = flat_map added_by receipts
