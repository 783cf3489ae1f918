-- Parts of what the UNIQUE constraints exclude, table by table.
use Rattle.std.specs.List.{IsDistinct}
use Rattle.package_tables.specs.Package.{Tables}
use Rattle.identity_register.specs.Numbering.{is_pair}
use Rattle.package_items.specs.Tied.{is_same_row, is_same_uuid}

pub record AreIdentitiesUnique (t : Tables) : Type 0 where
  pub numbers : IsDistinct is_same_row t.identities
  pub uuids : IsDistinct is_same_uuid t.identities

pub record ArePairsUnique (t : Tables) : Type 0 where
  pub tiles_media : IsDistinct is_pair t.tiles_media
  pub rows_media : IsDistinct is_pair t.rows_media
  pub rows_tiles : IsDistinct is_pair t.rows_tiles
