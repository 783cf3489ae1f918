-- The rows of the user tables one after the other, by their numbers.
use Rattle.std.specs.Prelude.{◌≡◌, ℤ, Bool, true, not, ◌==◌, ◌&&◌, List, map, filter, Option, Some}
use Rattle.std.specs.Prelude.{None}
use Rattle.std.specs.List.{AllByRecursion, list_any, list_all}
use Rattle.std.specs.Ordering.{int_cmp, is_gt}
use Rattle.sheet_types.specs.Matrix.{has_place, in_frame}
use Rattle.sheet_types.specs.Refuse.{has_good_size, is_printable}
use Rattle.sheet_types.specs.declared.command.Content.{Content}
use Rattle.sheet_types.specs.declared.command.Content.TheVariants.{Tile, Media, Row}
use Rattle.sheet_types.specs.declared.command.Mapping.{Mapping}
use Rattle.sheet_types.specs.declared.command.Mapping.TheVariants.{TilesMedia, RowsMedia, RowsTiles}
use Rattle.sheet_types.specs.declared.frame.Frame.{Frame}
use Rattle.package_tables.specs.Calls.{IsLeast}
use Rattle.package_tables.specs.Mappings.{mapping_rows}
use Rattle.package_tables.specs.Package.{Tables}
use Rattle.identity_register.specs.Gathered.{tile_placed, medium_placed, attributes_placed}
use Rattle.identity_register.specs.declared.whole.Placed.{Placed}
use Rattle.package_items.specs.Ranges.{is_local, is_tile_in_range, is_medium_in_range, is_row_in_range}
use Rattle.package_items.specs.Ranges.{is_pair_in_range}
use Rattle.package_items.specs.declared.user_tables.UserTable.{UserTable}
use Rattle.package_items.specs.declared.user_tables.UserTable.TheVariants.{TileTable, MediaTable, RowTable}

-- the rows of a table, each with its kind, its number and its content
abbrev pub placed_in : UserTable → Tables → List Placed
placed_in TileTable t = map tile_placed t.tiles
placed_in MediaTable t = map medium_placed t.media
placed_in RowTable t = map attributes_placed t.rows

-- a number comes after the last one; any does where there is none
abbrev pub is_past : Option ℤ → ℤ → Bool
is_past None number = true
is_past (Some last) number = is_gt (int_cmp number last)

-- the row of the least number after the last, if there is any
abbrev pub IsNextRow : UserTable → Option ℤ → Tables → Option Placed → Type 0
IsNextRow table last t found = IsLeast (λ x. x.number) (filter (λ x. is_past last x.number) (placed_in table t)) found

-- the ranges of a row, by its content
abbrev pub is_content_in_range : Frame → Content → Bool
is_content_in_range f (Tile zoom column row bytes) = has_place f zoom column row
is_content_in_range f (Media content_type bytes) = list_all is_printable content_type
is_content_in_range f (Row x y code label) = in_frame f x y && not (list_any (λ c. c == 10) label)

abbrev pub is_placed_in_range : Frame → Placed → Bool
is_placed_in_range f x = is_local x.number && has_good_size x.content && is_content_in_range f x.content

-- each row of one table, of all user tables, and of all mapping tables is in its ranges
abbrev pub AreRowsInRange : Frame → UserTable → Tables → Type 0
AreRowsInRange f TileTable t = AllByRecursion (λ r. is_tile_in_range f r ≡ true) t.tiles
AreRowsInRange f MediaTable t = AllByRecursion (λ r. is_medium_in_range r ≡ true) t.media
AreRowsInRange f RowTable t = AllByRecursion (λ r. is_row_in_range f r ≡ true) t.rows

pub record AreUserRowsInRange (f : Frame) (t : Tables) : Type 0 where
  pub tiles : AreRowsInRange f TileTable t
  pub media : AreRowsInRange f MediaTable t
  pub rows : AreRowsInRange f RowTable t

abbrev pub ArePairsIn : Mapping → Tables → Type 0
ArePairsIn m t = AllByRecursion (λ r. is_pair_in_range r ≡ true) (mapping_rows m t)

pub record ArePairsInRange (t : Tables) : Type 0 where
  pub tiles_media : ArePairsIn TilesMedia t
  pub rows_media : ArePairsIn RowsMedia t
  pub rows_tiles : ArePairsIn RowsTiles t
