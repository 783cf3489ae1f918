-- What is right to say of a store at a glance. Profile.
use Rattle.std.specs.Prelude.{◌⊎◌, pos, Option}
use Rattle.sqlite.specs.Effect.{Database}
use Rattle.sheet_types.specs.Opening.{Head}
use Rattle.package_tables.specs.Damaged.{ReadsClaims}
use Rattle.package_schema.specs.Heads.{ReadsHead, ReadsHeadAt}
use Rattle.opening_faults.specs.Sights.{head_seen, claims_seen}
use Rattle.opening_faults.specs.declared.sights.Sight.{Sight}
use Rattle.opening_v1.specs.Either.{SaysFirst}

-- the head that the store says, at the first version where it says that one, and else at the second; or none
abbrev pub ReadsEitherHead : Database → Option Head → Type 0
ReadsEitherHead db found = (SaysFirst db × ReadsHeadAt (pos 1) db found)
    ⊎ ((SaysFirst db → ⊥) × ReadsHead db found)

-- its head and its claims are right, as those of each right view are
pub record IsGlanceOf (db : Database) (sight : Sight) : Type 0 where
  pub head : ReadsEitherHead db (head_seen sight)
  pub claims : ReadsClaims db (claims_seen sight)
