use Rattle.std.proofs.Common.{◌≡◌, ◌++◌, flat_map, take}
use Rattle.std.specs.Prelude.{string_bytes}
use Rattle.view_report.specs.Holdings.{tie_if}
use Rattle.view_report.proofs.holdings.put_ties.Given as goal

-- the text of those so far
abbrev pub invariant-loop-tie : goal.invariant-loop-tie
invariant-loop-tie l = string_bytes l.text ≡ string_bytes l.initial.text
    ++ flat_map (tie_if l.register l.holder) (take l.tie-index l.ties)
