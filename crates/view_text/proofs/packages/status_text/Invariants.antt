use Rattle.std.proofs.Common.{◌≡◌, take}
use Rattle.std.specs.Prelude.{string_bytes}
use Rattle.view_text.specs.Packages.{status_of}
use Rattle.view_text.proofs.packages.status_text.Given as goal

-- the headings, and the lines of the packages so far
abbrev pub invariant-loop-row : goal.invariant-loop-row
invariant-loop-row l = string_bytes l.text ≡ status_of (take l.row-index l.rows)
