-- Where tiles lie (OGC GeoPackage 1.3, 2.2.8).
use Rattle.std.specs.Prelude.{ℤ, pos, Bool, ◌&&◌}
use Rattle.std.specs.Ordering.{int_eq}
use Rattle.sheet_types.specs.declared.command.Content.{Content}
use Rattle.sheet_types.specs.declared.command.Content.TheVariants.{Tile, Media, Row}
use Rattle.identity_register.specs.declared.whole.Placed.{Placed}
use Rattle.package_items.specs.declared.unique.Spot.{Spot}

-- a tile's number and place; of what is no tile the place says nothing
abbrev pub spot_in : ℤ → Content → Spot
spot_in number (Tile zoom column row bytes) = record { number = number; zoom = zoom; column = column; row = row }
spot_in number (Media content_type bytes) = record { number = number; zoom = pos 0; column = pos 0; row = pos 0 }
spot_in number (Row x y code label) = record { number = number; zoom = pos 0; column = pos 0; row = pos 0 }

abbrev pub spot_at : Placed → Spot
spot_at x = spot_in x.number x.content

-- two tiles in one place
abbrev pub is_same_spot : Spot → Spot → Bool
is_same_spot a b = int_eq a.zoom b.zoom && int_eq a.column b.column && int_eq a.row b.row
