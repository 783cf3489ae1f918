-- The ending is that of what was printed.
use Rattle.std.proofs.Common.{Ok, Err, refl}
use Rattle.views.proofs.maps.map_in.Goals as goal

pub returns-in-Ok : goal.returns-in-Ok
returns-in-Ok g c = record {
  outcome = Ok c.in-Ok.field-0;
  ends = refl;
  read = c.in-Ok.ensures.read;
  opens = c.in-Ok.ensures.opens;
  printed = c.in-Ok.ensures.printed;
  unprinted = c.in-Ok.ensures.unprinted;
}

pub returns-in-Err : goal.returns-in-Err
returns-in-Err g c = record {
  outcome = Err c.in-Err.fault;
  ends = c.end_of_map.ensures;
  read = c.in-Err.ensures.read;
  opens = c.in-Err.ensures.opens;
  printed = c.in-Err.ensures.printed;
  unprinted = c.in-Err.ensures.unprinted;
}
