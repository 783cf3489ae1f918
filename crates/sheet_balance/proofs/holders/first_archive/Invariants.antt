use Rattle.std.proofs.Common.{◌≡◌, take, false}
use Rattle.std.specs.Prelude.{is_none}
use Rattle.std.specs.List.{AllByRecursion}
use Rattle.sheet_balance.proofs.holders.first_archive.Given as goal

-- each so far has a parent
abbrev pub invariant-loop-holder : goal.invariant-loop-holder
invariant-loop-holder l = AllByRecursion (λ s. is_none s.parent ≡ false) (take l.holder-index l.holders)
