use Rattle.std.proofs.Common.{◌≡◌, take, length}
use Rattle.custody.proofs.Things.{AreRead}
use Rattle.custody.proofs.keeping.things_of.Given as goal

abbrev pub invariant-loop-position : goal.invariant-loop-position
invariant-loop-position l = record {
  long : length l.things.items ≡ l.position;
  read : AreRead l.fn.seq (take l.position l.rows) l.things.items;
}
