-- What rows that are in range, tied and unique say: the items and links of a package.
use Rattle.std.specs.Prelude.{◌≡◌, true, List, map, filter, bytes_eq}
use Rattle.std.specs.List.{AllByRecursion, IsDistinct}
use Rattle.sqlite.specs.Effect.{Database}
use Rattle.sheet_types.specs.Matrix.{is_good_frame}
use Rattle.sheet_types.specs.Refuse.{place_of}
use Rattle.sheet_types.specs.Register.{HasEnds, IsFit}
use Rattle.sheet_types.specs.World.{World, Package, is_tile}
use Rattle.sheet_types.specs.declared.command.Item.{Item}
use Rattle.sheet_types.specs.declared.command.Relation.{Relation}
use Rattle.sheet_types.specs.declared.frame.Frame.{Frame}
use Rattle.package_tables.specs.Package.{Tables, tables_of, AreFormed}
use Rattle.identity_register.specs.Numbering.{Numbered}
use Rattle.identity_register.specs.Reads.{SaysItems, SaysLinks}
use Rattle.package_items.specs.Ranges.{AreItemsInRange}
use Rattle.package_items.specs.Tied.{AreTied, AreUnique}

-- The tables say items and links, as a package of this frame may hold them.
pub record HoldsItems (f : Frame) (t : Tables) : Type 0 where
  pub numbered : List Numbered
  pub items : List Item
  pub of_items : SaysItems numbered items t.tiles t.media t.rows t.identities
  pub fit : (w : World) (p : Package) → w.frame ≡ f → AllByRecursion (IsFit w p) items
  pub places : IsDistinct bytes_eq (map (λ i. place_of i.content) (filter is_tile items))
  pub linked : List Relation
  pub links : List Relation
  pub of_links : SaysLinks numbered linked links t.tiles_media t.rows_media t.rows_tiles
  pub ends : (p : Package) → p.items ≡ items → AllByRecursion (HasEnds p) linked

-- The tables of a formed database do, where the frame is good and their rows are in range, tied and unique.
abbrev pub SaysWhatItHolds : Type 0
SaysWhatItHolds = (f : Frame) (db : Database) → is_good_frame f ≡ true → AreFormed db
    → AreItemsInRange f (tables_of db) → AreTied (tables_of db) → AreUnique (tables_of db)
    → HoldsItems f (tables_of db)
