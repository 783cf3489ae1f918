-- Those from one on have their places.
use Rattle.std.proofs.Common.{◌≤◌, length}
use Rattle.view_report.proofs.Placing.{ArePlacesFrom}
use Rattle.view_report.proofs.lists.places_of_things.Given as goal

abbrev pub invariant-loop-left : goal.invariant-loop-left
invariant-loop-left l = record {
  within : l.left ≤ length l.list;
  noted : ArePlacesFrom (λ t. t.identity) l.places l.list l.left;
}

abbrev pub decreases-loop-left : goal.decreases-loop-left
decreases-loop-left l = l.left
