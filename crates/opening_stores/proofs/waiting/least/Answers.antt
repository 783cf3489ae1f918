-- One place more, and all of them.
use Rattle.std.proofs.Common.{◌+◌, sym, subst, arith}
use Rattle.opening_stores.proofs.Least.{IsFirstOf, goes_on, ends, ends_none}
use Rattle.opening_stores.proofs.waiting.least.Goals as goal

pub loop-place-preserved : goal.loop-place-preserved
loop-place-preserved c = record {
  first = subst (IsFirstOf c.args.waiting.now (c.loop-place.place + 1)) (sym c.first_of-found.ensures)
      (goes_on c.args.waiting.now c.loop-place.place c.loop-place.found c.index-waiting-place.result
      c.loop-place-test.true c.index-waiting-place.is c.loop-place.invariant.first);
}

pub returns-clause-least : goal.returns-clause-least
returns-clause-least c = ends c.args.waiting.now c.loop-place.place c.loop-place.found
    (omega (arith, c.loop-place-test.false)) c.loop-place.invariant.first

pub returns-clause-none : goal.returns-clause-none
returns-clause-none c = ends_none c.args.waiting.now c.loop-place.place c.loop-place.found
    (omega (arith, c.loop-place-test.false)) c.loop-place.invariant.first
