use Rattle.std.proofs.Common.{◌≡◌, ◌++◌, flat_map, take}
use Rattle.std.specs.Prelude.{string_bytes}
use Rattle.view_report.specs.Patterns.{pattern_row}
use Rattle.view_report.proofs.patterns.put_patterns.Given as goal

-- the patterns of the packages so far
abbrev pub invariant-loop-live : goal.invariant-loop-live
invariant-loop-live l =
    string_bytes l.text ≡ string_bytes l.initial.text ++ flat_map (λ p. pattern_row p.number)
    (take l.live-index l.packages)
