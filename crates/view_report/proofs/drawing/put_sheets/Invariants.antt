use Rattle.std.proofs.Common.{◌≡◌, ◌++◌, flat_map, take}
use Rattle.std.specs.Prelude.{string_bytes}
use Rattle.view_report.specs.Drawing.{sheet_if}
use Rattle.view_report.proofs.drawing.put_sheets.Given as goal

-- the text of those so far
abbrev pub invariant-loop-thing : goal.invariant-loop-thing
invariant-loop-thing l = string_bytes l.text ≡ string_bytes l.initial.text
    ++ flat_map (sheet_if l.register l.level) (take l.thing-index l.things)
