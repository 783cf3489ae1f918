-- What is before `at` went out.
use Rattle.std.proofs.Common.{◌≤◌, length, take}
use Rattle.std.specs.Io.KnownBytes.{Appends}
use Rattle.manifest_csv.proofs.sending.send.Given as goal

abbrev pub invariant-sending : goal.invariant-sending
invariant-sending g l = record {
  within : l.at ≤ length l.text;
  out : Appends (g.W.Write.contents l.initial.writer) (g.W.Write.contents l.writer) (take l.at l.text);
}
