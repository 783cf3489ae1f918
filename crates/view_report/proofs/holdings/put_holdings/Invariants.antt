use Rattle.std.proofs.Common.{◌≡◌, ◌++◌, flat_map, take}
use Rattle.std.specs.Prelude.{string_bytes}
use Rattle.view_report.specs.Holdings.{holding_text}
use Rattle.view_report.proofs.holdings.put_holdings.Given as goal

-- the text of those so far
abbrev pub invariant-loop-live : goal.invariant-loop-live
invariant-loop-live l = string_bytes l.text ≡ string_bytes l.initial.text
    ++ flat_map (holding_text l.register) (take l.live-index l.packages)
