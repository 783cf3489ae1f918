-- What a command of several requests shows. Profile.
use Rattle.std.specs.Prelude.{true}
use Rattle.command_bringing.specs.declared.bringing.Purpose.{Purpose}
use Rattle.command_bringing.specs.declared.bringing.Purpose.TheVariants.{ShowList, ShowSummary}
use Rattle.command_naming.specs.declared.drops.Dropping.{Dropping}
use Rattle.command_desk.specs.declared.changing.Showing.{Showing}
use Rattle.command_desk.specs.declared.changing.Showing.TheVariants as showing

-- requests are shown as a list or in short
abbrev pub purpose_of : Showing → Purpose
purpose_of showing.List = ShowList
purpose_of showing.Summary = ShowSummary

-- the same drop, only shown
abbrev pub as_shown : Dropping → Dropping
as_shown d = record { word = d.word; at = d.at; ends_links = d.ends_links; is_shown = true }
