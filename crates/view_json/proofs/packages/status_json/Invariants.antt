use Rattle.std.proofs.Common.{map, take}
use Rattle.view_json.specs.Arrays.{IsOpen}
use Rattle.view_json.specs.Packages.{package_data}
use Rattle.view_json.proofs.packages.status_json.Given as goal

-- the packages so far
abbrev pub invariant-loop-row : goal.invariant-loop-row
invariant-loop-row l = IsOpen (map package_data (take l.row-index l.rows)) l.lines
