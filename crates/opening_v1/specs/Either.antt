-- What is right to see of a store that may be of either version. Profile.
use Rattle.std.specs.Prelude.{◌⊎◌, pos}
use Rattle.sqlite.specs.Effect.{Database}
use Rattle.sheet_types.specs.Opening.{Head}
use Rattle.sheet_laws.specs.Laws.{StoreSight}
use Rattle.package_schema.specs.Heads.{IsHeadAt}
use Rattle.opening_survey.specs.Views.{IsViewOf}
use Rattle.opening_verdict.specs.Views.{IsSeenAs}
use Rattle.opening_verdict.specs.declared.seen.StoreSeen.{StoreSeen}
use Rattle.opening_v1.specs.Views.{IsFirstViewOf}

-- the store says that it is of the first version
abbrev pub SaysFirst : Database → Type 0
SaysFirst db = (head : Head) × IsHeadAt (pos 1) db head

-- A right view of a store that says so is one of the first version, and of every other store one of the second.
abbrev pub IsViewAtEither : Database → StoreSight → Type 0
IsViewAtEither db v = (SaysFirst db × IsFirstViewOf db v) ⊎ ((SaysFirst db → ⊥) × IsViewOf db v)

-- some right view of the store is seen so
abbrev pub IsSeenAtEither : Database → StoreSeen → Type 0
IsSeenAtEither db seen = (v : StoreSight) × IsViewAtEither db v × IsSeenAs seen v
