-- Where the tiles of a tree of files lie. Profile, over OGC GeoPackage 1.3, 2.2.7 (tile matrix) and OSGeo TMS 1.0.0
-- (rows that run upwards).
use Rattle.std.specs.Prelude.{◌≡◌, ◌&&◌, Bool, true, false, ℕ, List, pos, ◌+ℤ◌, bytes_eq}
use Rattle.std.specs.Ordering.{int_eq}
use Rattle.sheet_types.specs.Matrix.{has_place, height_at, level_of}
use Rattle.sheet_types.specs.declared.command.Content.{Content}
use Rattle.sheet_types.specs.declared.command.Content.TheVariants.{Tile, Media, Row}
use Rattle.sheet_types.specs.declared.command.Item.{Item}
use Rattle.sheet_types.specs.declared.frame.Frame.{Frame}
use Rattle.command_verbs.specs.declared.areas.Place.{Place}

-- the zoom has this row
abbrev pub has_row : Frame → Place → Bool
has_row f file = has_place f file.zoom (pos 0) file.row

-- A file whose rows run downwards lies where its name says. Where they run upwards, its row and that of its place are
-- as far from the two edges.
abbrev pub IsPlaceOf : Frame → Bool → Place → Place → Type 0
IsPlaceOf f false file place = place ≡ file
IsPlaceOf f true file place =
    (place.zoom ≡ file.zoom) × (place.column ≡ file.column)
    × (((place.row +ℤ file.row) +ℤ pos 1) ≡ height_at f (level_of f file.zoom))

-- a tile of these bytes at this place
abbrev pub is_tile : Place → List ℕ → Content → Bool
is_tile place image (Tile zoom column row bytes) =
    int_eq zoom place.zoom && int_eq column place.column && int_eq row place.row && bytes_eq bytes image
is_tile place image (Media content_type bytes) = false
is_tile place image (Row x y code label) = false

-- an item is such a tile
abbrev pub is_tile_item : Place → List ℕ → Item → Bool
is_tile_item place image i = is_tile place image i.content
