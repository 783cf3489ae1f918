-- The content of the item that a word names in a world. Profile.
use Rattle.std.specs.Prelude.{◌≡◌, ℕ, List, Option, Some, Ok}
use Rattle.sheet_types.specs.World.{World, holdings, item_of}
use Rattle.sheet_types.specs.declared.command.Content.{Content}
use Rattle.sheet_types.specs.declared.command.Content.TheVariants.{Tile, Media, Row}
use Rattle.sheet_types.specs.declared.command.Item.{Item}
use Rattle.command_verbs.specs.Items.{the_item}
use Rattle.command_verbs.specs.declared.items.ItemEntry.{ItemEntry}
use Rattle.command_requests.specs.Listing.{world_items}

-- what stands in a content: the bytes of a tile or a medium, the label of a mark
abbrev pub data_of : Content → List ℕ
data_of (Tile zoom column row bytes) = bytes
data_of (Media content_type bytes) = bytes
data_of (Row x y code label) = label

-- the bytes of an item that is found
abbrev pub IsDataOf : Option Item → List ℕ → Type 0
IsDataOf found bytes = (i : Item) × (found ≡ Some i) × (bytes ≡ data_of i.content)

-- those of an item that is listed
abbrev pub IsListedData : World → ItemEntry → List ℕ → Type 0
IsListedData w e bytes = IsDataOf (item_of (holdings w e.holder) e.identity) bytes

-- those of the one item that a word names
abbrev pub IsNamedData : World → List ℕ → List ℕ → Type 0
IsNamedData w word bytes = (e : ItemEntry) × (the_item (world_items w) word ≡ Ok e) × IsListedData w e bytes
