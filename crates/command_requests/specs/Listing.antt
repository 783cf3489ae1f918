-- What words can name in a world: its live packages, and the items that they hold. Profile.
use Rattle.std.specs.Prelude.{◌≡◌, ◌⊎◌, ℕ, List, map, flat_map}
use Rattle.sqlite.specs.Store.{Ghosts}
use Rattle.sheet_types.specs.Texts.{kind_of}
use Rattle.sheet_types.specs.Answers.{PackageSight as ModelSight, package_sights}
use Rattle.sheet_types.specs.World.{World, holdings}
use Rattle.sheet_types.specs.declared.command.Item.{Item}
use Rattle.command_verbs.specs.declared.items.ItemEntry.{ItemEntry}
use Rattle.command_verbs.specs.declared.names.PackageEntry.{PackageEntry}
use Rattle.world.specs.Worlds.{IsRead, Seen}
use Rattle.world.specs.declared.reading.PackageSight.{PackageSight}

abbrev pub entry_of : PackageSight → PackageEntry
entry_of s = record { uuid = s.uuid; parent = s.parent; depth = s.depth; ticket = s.ticket }

-- an item that a package holds
abbrev pub item_entry : List ℕ → Item → ItemEntry
item_entry holder i = record { holder = holder; identity = i.identity; kind = kind_of i.content }

-- the items that are held under a UUID
abbrev pub items_under : World → List ℕ → List ItemEntry
items_under w p = map (item_entry p) (holdings w p).items

-- the items of all live packages
abbrev pub world_items : World → List ItemEntry
world_items w = flat_map (λ (s : ModelSight). items_under w s.uuid) (package_sights w)

module _ {S : Type 0} (g : Ghosts S) where
  -- The world is as it was, or it was only read.
  abbrev pub IsUntouched : Seen S → Seen S → Type 0
  IsUntouched old new = (new ≡ old) ⊎ IsRead g old new
