-- The sheets so far and those of the packages to come are all of them.
use Rattle.std.proofs.Common.{◌≡◌, ◌++◌, drop}
use Rattle.view_map.specs.Sheets.{sheets_where}
use Rattle.view_map.proofs.sheets.add_sheets.Given as goal

abbrev pub invariant-loop-index : goal.invariant-loop-index
invariant-loop-index l = l.sheets.items ++ sheets_where l.layout l.loans l.index (drop l.index l.holders)
    ≡ l.initial.sheets.items ++ sheets_where l.layout l.loans 0 l.holders
