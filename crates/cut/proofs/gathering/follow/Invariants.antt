use Rattle.std.proofs.Common.{◌-◌, ◌≤◌, length}
use Rattle.cut.specs.Gathering.{IsGroup}
use Rattle.cut.proofs.Asking.{Asked}
use Rattle.cut.proofs.Walking.{Walked}
use Rattle.cut.proofs.gathering.follow.Given as goal

-- as many items as this were asked
abbrev pub invariant-loop-next : goal.invariant-loop-next
invariant-loop-next g l = IsGroup l.items × (l.next ≤ length l.items.order.items)
    × Asked g.R.Reach.can_ask g.R.Reach.stays g.R.Reach.shows
    (λ p. Walked p l.fn.start l.items.order.items l.links.items l.next) l.fn.reach l.reach

abbrev pub decreases-loop-next : goal.decreases-loop-next
decreases-loop-next g l = 18446744073709551616 - l.next
