-- What the judge sees of a world. Profile.
use Rattle.std.specs.Prelude.{◌≡◌, List, map, true}
use Rattle.std.specs.List.{list_any, AllZip}
use Rattle.sheet_types.specs.Ordered.{IsArranged}
use Rattle.sheet_types.specs.Refuse.{is_archive}
use Rattle.sheet_types.specs.World.{World, Package, item_moved, link_moved, package_key}
use Rattle.sheet_balance.specs.declared.sights.Sight.{Sight}

-- the sight is that of the package: what it holds is told as receipts tell it
pub record IsSightOf (s : Sight) (p : Package) : Type 0 where
  pub uuid : s.uuid ≡ p.uuid
  pub parent : s.parent ≡ p.parent
  pub loan : s.loan ≡ p.loan
  pub items : s.items ≡ map item_moved p.items
  pub links : s.links ≡ map link_moved p.links
  pub receipts : s.receipts.items ≡ p.receipts

-- the sights are those of the packages, in turn
abbrev pub AreSightsOf : List Sight → List Package → Type 0
AreSightsOf ss ps = AllZip IsSightOf ss ps

-- a world that is seen so. Its packages are in the order of their UUIDs, so no two have one, and one of them is the
-- archive
pub record IsSeen (sights : List Sight) (w : World) : Type 0 where
  pub packages : AreSightsOf sights w.packages
  pub in_order : IsArranged package_key w.packages
  pub archive : list_any is_archive w.packages ≡ true
