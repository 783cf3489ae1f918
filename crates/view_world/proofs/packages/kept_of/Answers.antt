-- What is kept of each package is what the world has of it.
use Rattle.view_world.proofs.Looked.{not_failed}
use Rattle.view_world.proofs.Rows.{sums_seen}
use Rattle.view_world.proofs.packages.kept_of.Goals as goal

pub returns-clause-kept : goal.returns-clause-kept
returns-clause-kept g c = λ w stands.
    record {
      seen = c.in_ok-sights.ensures w stands;
      held = sums_seen w stands.members.register.arranged c.in_ok-sights.sights.items c.in_ok-sums.sums.items
          (c.in_ok-sights.ensures w stands) (rw c.deref.ensures.value at c.in_ok-sums.ensures w stands);
    }

pub returns-in_err-sights-clause-failed : goal.returns-in_err-sights-clause-failed
returns-in_err-sights-clause-failed g c = not_failed c.args.world.now.has_failed c.in_ok-usable.ensures.passed

pub returns-in_err-sums-clause-failed : goal.returns-in_err-sums-clause-failed
returns-in_err-sums-clause-failed g c = not_failed c.args.world.now.has_failed c.in_ok-usable.ensures.passed

pub returns-clause-failed : goal.returns-clause-failed
returns-clause-failed g c = not_failed c.args.world.now.has_failed c.in_ok-usable.ensures.passed
