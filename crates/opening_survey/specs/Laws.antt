-- What a store that is whole, tied and unique says: a package that keeps its own rules. Profile.
use Rattle.std.specs.Prelude.{◌≡◌, List, map}
use Rattle.sqlite.specs.Effect.{Database}
use Rattle.sheet_types.specs.Opening.{Head, head_of, claim_of}
use Rattle.sheet_types.specs.Register.{HasParent, IsKeptPackage}
use Rattle.sheet_types.specs.World.{World, Package}
use Rattle.sheet_types.specs.declared.frame.Frame.{Frame}
use Rattle.sheet_types.specs.declared.receipt.Receipt.{Receipt}
use Rattle.package_tables.specs.Damaged.{claim_of_row}
use Rattle.package_tables.specs.Package.{tables_of}
use Rattle.identity_register.specs.Reads.{Reads}
use Rattle.package_schema.specs.Heads.{IsHead}
use Rattle.package_items.specs.Tied.{AreTied, AreUnique}
use Rattle.package_receipts.specs.Read.{AreSaid}
use Rattle.opening_survey.specs.Views.{IsWhole}

-- the database reads as this package, which has that head and those receipts, and keeps its own rules in any world of
-- the frame in which its parent stands
pub record IsPackageOf (f : Frame) (db : Database) (head : Head) (receipts : List Receipt) (p : Package) : Type 0 where
  pub reads : Reads f p db
  pub heads : head ≡ head_of p
  pub receipts_are : p.receipts ≡ receipts
  pub claimed : map claim_of_row (tables_of db).receipts ≡ map claim_of p.receipts
  pub keeps : (w : World) → w.frame ≡ f → HasParent w p → IsKeptPackage w p

-- A store that is whole, tied and unique reads as a package.
abbrev pub ReadsAsAPackage : Type 0
ReadsAsAPackage = (f : Frame) (db : Database) (head : Head) (receipts : List Receipt) → IsWhole f db
    → IsHead db head
    → AreTied (tables_of db) → AreUnique (tables_of db) → AreSaid (tables_of db) receipts
    → (p : Package) × IsPackageOf f db head receipts p
