use Rattle.std.proofs.Common.{◌+ℤ◌, pos}
use Rattle.cut.specs.Gathering.{AreSame, tiles_below}
use Rattle.cut.proofs.Asking.{Asked}
use Rattle.cut.proofs.starting.tiles_inside.Given as goal

abbrev pub invariant-loop-level : goal.invariant-loop-level
invariant-loop-level g l = Asked g.R.Reach.can_ask g.R.Reach.stays g.R.Reach.shows
    (λ p. AreSame l.found.items (tiles_below l.fn.frame l.fn.rect p (l.fn.frame.first_zoom +ℤ pos l.level)))
    l.fn.reach l.reach
