use Rattle.std.proofs.Common.{◌≡◌, ◌++◌}
use Rattle.std.specs.Prelude.{string_bytes}
use Rattle.view_drawing.specs.Sheets.{levels_text}
use Rattle.view_drawing.proofs.sheets.put_levels.Given as goal

-- the zooms so far
abbrev pub invariant-loop-index : goal.invariant-loop-index
invariant-loop-index l = string_bytes l.text ≡ string_bytes l.initial.text ++ levels_text l.register l.total l.index
