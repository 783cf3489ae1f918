-- The map of a world. Profile.
use Rattle.std.specs.Prelude.{◌≡◌, ℕ, List, Option, Some, None, ℤ, unsigned_abs, if◌then◌else◌}
use Rattle.std.specs.Ordering.{int_eq}
use Rattle.std.specs.List.{AllZip, filter_map}
use Rattle.sheet_types.specs.Answers.{PackageSight, package_sights}
use Rattle.sheet_types.specs.World.{World, holdings}
use Rattle.sheet_types.specs.declared.command.Content.{Content}
use Rattle.sheet_types.specs.declared.command.Content.TheVariants.{Tile, Media, Row}
use Rattle.sheet_types.specs.declared.command.Item.{Item}
use Rattle.view_map.specs.Maps.{map_text}
use Rattle.view_map.specs.declared.holders.Place.{Place}
use Rattle.view_map.specs.declared.holders.Holder.{Holder}

-- the place of a content at this zoom, if it has one
abbrev pub content_place : ℤ → Content → Option Place
content_place zoom (Tile at column row bytes) =
    if int_eq at zoom then Some (record { column = unsigned_abs column; row = unsigned_abs row }) else None
content_place zoom (Media content_type bytes) = None
content_place zoom (Row x y code label) = None

abbrev pub place_at : ℤ → Item → Option Place
place_at zoom item = content_place zoom item.content

-- the places of the tiles of this zoom
abbrev pub places_of : ℤ → List Item → List Place
places_of zoom items = filter_map (place_at zoom) items

-- what is drawn of a live package: its UUID, its depth, and the places of what is held under that UUID
pub record IsHolder (w : World) (zoom : ℤ) (s : PackageSight) (h : Holder) : Type 0 where
  pub uuid : h.uuid ≡ s.uuid
  pub depth : h.depth ≡ s.depth
  pub places : h.places.items ≡ places_of zoom (holdings w s.uuid).items

-- the same of all live packages, by UUID
abbrev pub AreHolders : World → ℤ → List Holder → Type 0
AreHolders w zoom hs = AllZip (IsHolder w zoom) (package_sights w) hs

-- This is the map of the world at a zoom.
abbrev pub IsWorldMap : World → ℤ → List ℕ → Type 0
IsWorldMap w zoom text = (hs : List Holder) × AreHolders w zoom hs × (text ≡ map_text w.frame zoom hs)
