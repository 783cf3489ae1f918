-- What stands under the local number that it had, and the changes that leave it there. Profile.
use Rattle.std.specs.Prelude.{List, Contains}
use Rattle.sqlite.specs.Effect.{Database}
use Rattle.sheet_types.specs.World.{Package}
use Rattle.sheet_types.specs.declared.frame.Frame.{Frame}
use Rattle.package_tables.specs.Package.{Tables, tables_of}
use Rattle.identity_register.specs.Reads.{Reads}

-- each row of a list stands in another, as it is
abbrev pub StandIn : {R : Type 0} → List R → List R → Type 0
StandIn {R} rows others = (row : R) → Contains rows row → Contains others row

-- Each row of an item, of an identity and of a link stands in other tables as it is, so under the same number.
pub record KeepRows (before after : Tables) : Type 0 where
  pub tiles : StandIn before.tiles after.tiles
  pub media : StandIn before.media after.media
  pub rows : StandIn before.rows after.rows
  pub identities : StandIn before.identities after.identities
  pub tiles_media : StandIn before.tiles_media after.tiles_media
  pub rows_media : StandIn before.rows_media after.rows_media
  pub rows_tiles : StandIn before.rows_tiles after.rows_tiles

-- What stands in a database stands in another, under the number that it has.
abbrev pub KeepsNumbers : Database → Database → Type 0
KeepsNumbers old new = KeepRows (tables_of old) (tables_of new)

-- A store that reads as a package which fits reads as the changed one afterwards, and what stood keeps its number.
abbrev pub Grows : (Package → Type 0) → (Package → Package) → Database → Database → Type 0
Grows Fits after old new =
    (f : Frame) (p : Package) → Reads f p old → Fits p → Reads f (after p) new × KeepsNumbers old new

-- A store that reads as a package which fits reads as the changed one afterwards, and what stands still has the
-- number that it had.
abbrev pub Shrinks : (Package → Type 0) → (Package → Package) → Database → Database → Type 0
Shrinks Fits after old new =
    (f : Frame) (p : Package) → Reads f p old → Fits p → Reads f (after p) new × KeepsNumbers new old
