-- What was taken stands behind what the input had; a source that does not fail gave a byte each turn.
use Rattle.std.proofs.Common.{◌≤◌, length}
use Rattle.desk_calls.specs.Bodies.{Grows}
use Rattle.desk_calls.proofs.bodies.gather_body.Given as goal

abbrev pub invariant-gathering : goal.invariant-gathering
invariant-gathering g l = record {
  grown : Grows (g.R.Source.remaining l.initial.source) (g.R.Source.remaining l.source) l.initial.input.items
      l.input.items;
  keeps : g.R.Source.never_fails l.initial.source → g.R.Source.never_fails l.source;
  steps : g.R.Source.never_fails l.initial.source → l.turn ≤ length l.input.items;
}
