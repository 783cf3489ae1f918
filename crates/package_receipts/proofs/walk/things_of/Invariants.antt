use Rattle.std.proofs.Common.{◌≡◌, take, length}
use Rattle.package_receipts.specs.Read.{AreThingsOf}
use Rattle.package_receipts.proofs.walk.things_of.Given as goal

abbrev pub invariant-loop-place : goal.invariant-loop-place
invariant-loop-place l = record {
  long : length l.things.items ≡ l.place;
  read : AreThingsOf l.fn.seq (take l.place l.rows) l.things.items;
}
