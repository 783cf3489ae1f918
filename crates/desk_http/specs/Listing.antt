-- The list of packages from what a world tells of each. Profile.
use Rattle.std.specs.Prelude.{ℕ, List, Option, unwrap_or}
use Rattle.sheet_types.specs.Answers.{PackageSight, sums_of}
use Rattle.sheet_types.specs.World.{World}
use Rattle.sheet_types.specs.declared.receipt.Sums.{Sums}
use Rattle.desk_replies.specs.declared.packages.Listed.{Listed}

abbrev pub no_sums : Sums
no_sums = record { tiles = 0; media = 0; rows = 0; links = 0; bytes = 0 }

-- a package's sight with its sums, which each live one has
abbrev pub listed_from : Option Sums → PackageSight → Listed
listed_from sums s = record {
  uuid = s.uuid;
  parent = s.parent;
  depth = s.depth;
  ticket = s.ticket;
  sums = unwrap_or sums no_sums;
}

abbrev pub listed_in : World → PackageSight → Listed
listed_in w s = listed_from (sums_of w s.uuid) s
