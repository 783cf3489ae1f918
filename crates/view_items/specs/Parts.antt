-- What is kept of a package whose contents may be read one at a time. Profile.
use Rattle.std.specs.Prelude.{◌≡◌, ℕ, List, flat_map, map}
use Rattle.sqlite.specs.Store.{Ghosts}
use Rattle.sheet_types.specs.World.{Package, World, holdings, item_moved}
use Rattle.sheet_types.specs.declared.command.Item.{Item}
use Rattle.sheet_types.specs.declared.command.Relation.{Relation}
use Rattle.sheet_types.specs.declared.receipt.Moved.{Moved}
use Rattle.world_members.specs.Members.{AllClean}
use Rattle.world.specs.Worlds.{Seen, StandsFor}

-- what is kept of the items of a package, in their order, and its links
abbrev pub ArePartsOf : {A : Type 0} → (Item → List A) → Package → List A → List Relation → Type 0
ArePartsOf parts p kept links = (kept ≡ flat_map parts p.items) × (links ≡ p.links)

-- this is so of the items of the package, where it is they that are told of
abbrev pub OfTold : {S : Type 0} → Ghosts S → List ℕ → List Moved → Seen S → Seen S
    → (List Item → Type 0) → Type 0
OfTold g p told old new Fact = AllClean g new.members → (w : World) → StandsFor g old w
    → told ≡ map item_moved (holdings w p).items → Fact (holdings w p).items
