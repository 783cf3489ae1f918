-- What the reading calls of a world answer. Profile.
use Rattle.std.specs.Prelude.{ℕ, List, map, length, Option, count_by, sum_by}
use Rattle.std.specs.Bool.{then_some}
use Rattle.sheet_types.specs.Texts.{size}
use Rattle.sheet_types.specs.World.{World, Package, is_live, holdings, is_tile, is_medium, is_row}
use Rattle.sheet_types.specs.Custody.{kept, ticket, ends_at}
use Rattle.sheet_types.specs.declared.command.Item.{Item}
use Rattle.sheet_types.specs.declared.command.Relation.{Relation}
use Rattle.sheet_types.specs.declared.receipt.Receipt.{Receipt}
use Rattle.sheet_types.specs.declared.receipt.Sums.{Sums}

-- how much a package holds, by kind, and the bytes of it
abbrev pub sums_held : Package → Sums
sums_held p = record {
  tiles = count_by is_tile p.items;
  media = count_by is_medium p.items;
  rows = count_by is_row p.items;
  links = length p.links;
  bytes = sum_by (λ i. size i.content) p.items;
}

-- the sums of a live package, none for another
abbrev pub sums_of : World → List ℕ → Option Sums
sums_of w p = then_some (is_live w p) (sums_held (holdings w p))

-- what the list of packages says of one
pub record PackageSight : Type 0 where
  pub uuid : List ℕ
  pub parent : Option (List ℕ)
  pub depth : ℕ
  pub ticket : ℕ

-- the live packages, by UUID
abbrev pub package_sights : World → List PackageSight
package_sights w = map (λ p. record { uuid = p.uuid; parent = p.parent; depth = p.depth; ticket = ticket w p.uuid })
    w.packages

-- how many live packages are loans of this one
abbrev pub loans_of : World → List ℕ → ℕ
loans_of w p = count_by (λ x. ends_at x.parent p) w.packages

-- the items of a live package by kind and identity, and its links by kind, base and other end; none for another
abbrev pub holdings_answer : World → List ℕ → Option (List Item × List Relation)
holdings_answer w p = then_some (is_live w p) ((holdings w p).items, (holdings w p).links)

-- the kept receipt of a request, if there is one
abbrev pub receipt_answer : World → List ℕ → Option Receipt
receipt_answer w id = kept w id
