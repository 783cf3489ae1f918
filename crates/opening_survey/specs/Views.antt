-- What is right to see of a store that may be damaged. Profile, over the tables of GeoPackage 1.3 and OGC 18-000.
use Rattle.std.specs.Prelude.{◌≡◌, true}
use Rattle.sqlite.specs.Effect.{Database}
use Rattle.sheet_types.specs.Opening.{Head}
use Rattle.sheet_types.specs.declared.frame.Frame.{Frame}
use Rattle.sheet_laws.specs.Laws.{StoreSight}
use Rattle.package_tables.specs.Damaged.{ReadsClaims}
use Rattle.package_tables.specs.Package.{tables_of, AreFormed}
use Rattle.identity_register.specs.Reads.{Reads}
use Rattle.package_schema.specs.Frames.{HasFrame, AreDated}
use Rattle.package_schema.specs.Heads.{IsHead, ReadsHead}
use Rattle.package_items.specs.Answers.{Decides}
use Rattle.package_items.specs.Ranges.{AreItemsInRange}
use Rattle.package_items.specs.Tied.{AreTied}
use Rattle.package_receipts.specs.Ranges.{AreReceiptsInRange}

-- All tables have their form: one head, the fixed rows of this good frame with a moment each, and every row in its
-- ranges.
pub record IsWhole (f : Frame) (db : Database) : Type 0 where
  pub formed : AreFormed db
  pub head : Head
  pub headed : IsHead db head
  pub frame : HasFrame f (tables_of db)
  pub dated : AreDated (tables_of db)
  pub items : AreItemsInRange f (tables_of db)
  pub receipts : AreReceiptsInRange (tables_of db).receipts (tables_of db).moved

-- It is so of some frame.
abbrev pub IsFormed : Database → Type 0
IsFormed db = (f : Frame) × IsWhole f db

-- The view is right: head and claims, whether it is formed and tied, and where it is both of which frame and which
-- package. Of a store that is not formed it says nothing more, and of one that is not tied no package.
pub record IsViewOf (db : Database) (v : StoreSight) : Type 0 where
  pub head : ReadsHead db v.head
  pub claims : ReadsClaims db v.claims
  pub formed : Decides (IsFormed db) v.is_formed
  pub frame : v.is_formed ≡ true → IsWhole v.frame db
  pub tied : v.is_formed ≡ true → Decides (AreTied (tables_of db)) v.is_tied
  pub reads : v.is_formed ≡ true → v.is_tied ≡ true → Reads v.frame v.reads_as db
