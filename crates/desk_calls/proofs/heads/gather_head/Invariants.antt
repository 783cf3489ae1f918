-- What was taken is in the input, which holds no head yet; a source that does not fail gave a byte each turn.
use Rattle.std.proofs.Common.{◌≡◌, ◌≤◌, ◌⊎◌, [], length}
use Rattle.std.specs.Io.KnownBytes.{Consumes}
use Rattle.httparse.specs.Grammar.{HasNoRequest}
use Rattle.desk_calls.proofs.heads.gather_head.Given as goal

abbrev pub invariant-gathering : goal.invariant-gathering
invariant-gathering g l = record {
  within : length l.input.items ≤ 16384;
  room : length l.headers ≡ 64;
  taken : Consumes (g.R.Source.remaining l.initial.source) (g.R.Source.remaining l.source) l.input.items;
  none : (l.input.items ≡ []) ⊎ HasNoRequest l.input.items;
  keeps : g.R.Source.never_fails l.initial.source → g.R.Source.never_fails l.source;
  steps : g.R.Source.never_fails l.initial.source → l.turn ≤ length l.input.items;
}
