use Rattle.std.proofs.Common.{◌≡◌, ◌++◌, flat_map, take}
use Rattle.std.specs.Prelude.{string_bytes}
use Rattle.view_loan.specs.Verdicts.{own_loan_if}
use Rattle.view_loan.proofs.verdicts.put_own_among.Given as goal

-- the text of those so far
abbrev pub invariant-loop-live : goal.invariant-loop-live
invariant-loop-live l = string_bytes l.text ≡ string_bytes l.initial.text
    ++ flat_map (own_loan_if l.register l.loan) (take l.live-index l.packages)
