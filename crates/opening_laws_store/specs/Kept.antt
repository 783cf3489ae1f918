-- What a store that reads as a package has of all that an opening asks of a store. Profile, over the tables of
-- GeoPackage 1.3 and OGC 18-000.
use Rattle.std.specs.Prelude.{◌≡◌, map}
use Rattle.sqlite.specs.Effect.{Database}
use Rattle.sheet_types.specs.Opening.{claim_of, head_of}
use Rattle.sheet_types.specs.World.{Package}
use Rattle.sheet_types.specs.declared.frame.Frame.{Frame}
use Rattle.package_tables.specs.Damaged.{claim_of_row}
use Rattle.package_tables.specs.Package.{tables_of, AreFormed}
use Rattle.package_schema.specs.Frames.{HasFrame, AreDated}
use Rattle.package_schema.specs.Heads.{IsHead}
use Rattle.package_items.specs.Ranges.{AreItemsInRange}
use Rattle.package_items.specs.Tied.{AreTied}
use Rattle.package_receipts.specs.Ranges.{AreReceiptsInRange}

-- All that an opening asks of a store holds of it, and head and claims are those of the package.
pub record IsWholeAs (f : Frame) (p : Package) (db : Database) : Type 0 where
  pub formed : AreFormed db
  pub headed : IsHead db (head_of p)
  pub frame : HasFrame f (tables_of db)
  pub dated : AreDated (tables_of db)
  pub items : AreItemsInRange f (tables_of db)
  pub receipts : AreReceiptsInRange (tables_of db).receipts (tables_of db).moved
  pub tied : AreTied (tables_of db)
  pub claimed : map claim_of_row (tables_of db).receipts ≡ map claim_of p.receipts
