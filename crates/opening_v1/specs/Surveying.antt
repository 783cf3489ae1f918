-- What the parts of a survey answer, one after the other. Profile.
use Rattle.std.specs.Prelude.{pos, Option, MatchOption, option_map}
use Rattle.sqlite.specs.Effect.{Database}
use Rattle.sheet_types.specs.declared.frame.Frame.{Frame}
use Rattle.opening_faults.specs.Sights.{head_said}
use Rattle.package_tables.specs.Package.{tables_of}
use Rattle.package_schema.specs.Forms.{HasFirstForm}
use Rattle.package_schema.specs.Frames.{HasFirstFrame, AreDated}
use Rattle.package_schema.specs.Heads.{ReadsHeadAt}
use Rattle.opening_survey.specs.Surveying.{HasPassages}
use Rattle.opening_survey.specs.declared.said.Said.{Said}
use Rattle.opening_v1.specs.Views.{IsFirstFormed}

-- these are the head, of the first version, and the splits and merges of the database
pub record IsFirstSaid (db : Database) (s : Said) : Type 0 where
  pub head : ReadsHeadAt (pos 1) db (option_map head_said s.head)
  pub claims : HasPassages db s.claims.items

-- the fourteen tables have their form, and their fixed rows, with a moment each, are those of this frame
pub record IsFirstRead (f : Frame) (db : Database) : Type 0 where
  pub formed : HasFirstForm db
  pub frame : HasFirstFrame f (tables_of db)
  pub dated : AreDated (tables_of db)

-- or the store is not formed
abbrev pub ReadsFirstFormed : Database → Option Frame → Type 0
ReadsFirstFormed db found = MatchOption found (IsFirstFormed db → ⊥) (λ f. IsFirstRead f db)
