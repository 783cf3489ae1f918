-- The rows of the links so far went out.
use Rattle.std.proofs.Common.{List, take}
use Rattle.std.specs.Prelude.{flat_map}
use Rattle.std.specs.Io.KnownBytes.{Appends}
use Rattle.sheet_types.specs.declared.command.Item.{Item}
use Rattle.view_export.specs.Exports.{link_row}
use Rattle.view_export.specs.Numbers.{AreNumbersOf}
use Rattle.views.proofs.writing.send_links.Given as goal

abbrev pub invariant-loop-link : goal.invariant-loop-link
invariant-loop-link g l = (items : List Item) → AreNumbersOf l.numbers items
    → Appends (g.W.Write.contents l.initial.writer) (g.W.Write.contents l.writer)
    (flat_map (link_row items) (take l.link-index l.links))
