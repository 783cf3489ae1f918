use Rattle.std.proofs.Common.{◌≡◌, ℕ, List, take}
use Rattle.std.specs.List.{list_any}
use Rattle.std.specs.Ordering.{nat_cmp}
use Rattle.std.specs.Cmp.Lexicographic.{slice_cmp}
use Rattle.std.specs.BTreeSet.{contains}
use Rattle.sheet_balance.specs.Holders.{has_seen}
use Rattle.sheet_balance.proofs.holding.held_by.Given as goal

-- what those so far hold
abbrev pub invariant-loop-holder : goal.invariant-loop-holder
invariant-loop-holder l = (thing : List ℕ) → contains (slice_cmp nat_cmp) l.held thing
    ≡ list_any (has_seen thing) (take l.holder-index l.holders)
