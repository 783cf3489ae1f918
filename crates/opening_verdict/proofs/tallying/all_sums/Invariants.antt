use Rattle.std.proofs.Common.{take}
use Rattle.std.specs.List.{AllZip}
use Rattle.opening_verdict.specs.Tallies.{TellsSums}
use Rattle.opening_verdict.proofs.tallying.all_sums.Given as goal

-- of each so far
abbrev pub invariant-loop-sight : goal.invariant-loop-sight
invariant-loop-sight l = AllZip TellsSums (take l.sight-index l.held) l.all.items
