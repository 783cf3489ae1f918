-- What is told of a package whose contents are read one at a time. Profile.
use Rattle.std.specs.Prelude.{◌≡◌, ℕ, List, map, Option, Some, Contains}
use Rattle.sheet_types.specs.World.{Package, item_moved, item_of, link_moved}
use Rattle.sheet_types.specs.declared.command.Item.{Item}
use Rattle.sheet_types.specs.declared.command.Relation.{Relation}
use Rattle.sheet_types.specs.declared.frame.Frame.{Frame}
use Rattle.sheet_types.specs.declared.receipt.Moved.{Moved}
use Rattle.package_tables.specs.Package.{Tables}
use Rattle.identity_register.specs.Reads.{Says}

-- what receipts tell of the items of a package, and its links
abbrev pub AreTold : Package → List Moved → List Relation → Type 0
AreTold p told links = (told ≡ map item_moved p.items) × (links ≡ p.links)

-- the link that receipts tell so of, and no other
abbrev pub IsLinkTold : Moved → Relation → Type 0
IsLinkTold told link = (l : Relation) → told ≡ link_moved l → link ≡ l

-- what is found under an identity is the item of the package that has it; none where no item has
pub record IsItemOf (p : Package) (id : List ℕ) (found : Option Item) : Type 0 where
  pub is : found ≡ item_of p id
  pub each : (item : Item) → Contains p.items item → item.identity ≡ id → found ≡ Some item

-- the answer of each package that tables say
abbrev pub OfPackage : {X : Type 0} → (Package → X → Type 0) → Tables → X → Type 0
OfPackage Answer t x = (f : Frame) (p : Package) → Says f p t → Answer p x
