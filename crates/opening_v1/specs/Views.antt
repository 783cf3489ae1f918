-- What is right to see of a store of the first version that may be damaged. Profile, over the tables of GeoPackage
-- 1.3 and OGC 18-000.
use Rattle.std.specs.Prelude.{◌≡◌, true, pos}
use Rattle.sqlite.specs.Effect.{Database}
use Rattle.sheet_types.specs.Opening.{Head}
use Rattle.sheet_types.specs.declared.frame.Frame.{Frame}
use Rattle.sheet_laws.specs.Laws.{StoreSight}
use Rattle.package_tables.specs.Damaged.{ReadsClaims}
use Rattle.package_tables.specs.Package.{tables_of}
use Rattle.package_v1.specs.FirstVersion.{first_tables_of, ReadsAtVersionOne}
use Rattle.package_schema.specs.Forms.{HasFirstForm}
use Rattle.package_schema.specs.Frames.{HasFirstFrame, AreDated}
use Rattle.package_schema.specs.Heads.{IsHeadAt, ReadsHeadAt}
use Rattle.package_items.specs.Answers.{Decides}
use Rattle.package_items.specs.Ranges.{AreItemsInRange}
use Rattle.package_items.specs.Tied.{AreTied}
use Rattle.package_receipts.specs.Ranges.{AreReceiptsInRange}
use Rattle.opening_verdict.specs.Views.{IsSeenAs}
use Rattle.opening_verdict.specs.declared.seen.StoreSeen.{StoreSeen}

-- The fourteen tables have their form, and nothing has a name that the second version needs: one head of the first
-- version, its fixed rows of this good frame with a moment each, and every row in its ranges.
pub record IsFirstWhole (f : Frame) (db : Database) : Type 0 where
  pub formed : HasFirstForm db
  pub head : Head
  pub headed : IsHeadAt (pos 1) db head
  pub frame : HasFirstFrame f (tables_of db)
  pub dated : AreDated (tables_of db)
  pub items : AreItemsInRange f (first_tables_of db)
  pub receipts : AreReceiptsInRange (tables_of db).receipts (tables_of db).moved

-- It is so of some frame.
abbrev pub IsFirstFormed : Database → Type 0
IsFirstFormed db = (f : Frame) × IsFirstWhole f db

-- The view is right: head and claims, whether it is formed and tied, and where it is both of which frame and which
-- package. Of a store that is not formed it says nothing more, and of one that is not tied no package.
pub record IsFirstViewOf (db : Database) (v : StoreSight) : Type 0 where
  pub head : ReadsHeadAt (pos 1) db v.head
  pub claims : ReadsClaims db v.claims
  pub formed : Decides (IsFirstFormed db) v.is_formed
  pub frame : v.is_formed ≡ true → IsFirstWhole v.frame db
  pub tied : v.is_formed ≡ true → Decides (AreTied (first_tables_of db)) v.is_tied
  pub reads : v.is_formed ≡ true → v.is_tied ≡ true → ReadsAtVersionOne v.frame v.reads_as db

-- some right view of the store is seen so
abbrev pub IsFirstSeenRight : Database → StoreSeen → Type 0
IsFirstSeenRight db seen = (v : StoreSight) × IsFirstViewOf db v × IsSeenAs seen v
