-- A world, or a fault.
use Rattle.promises.proofs.Opening.{opens_certified, refuses_with_cause}
use Rattle.promises.proofs.reopening.open.Goals as goal

pub returns-in-Ok-clause-certified : goal.returns-in-Ok-clause-certified
returns-in-Ok-clause-certified g c = opens_certified g.S.Store c.opened_is_timely.ensures c.args.stores.items
    c.in-Ok.found c.has_failed.ensures.held c.in-Ok.ensures.stands

pub returns-in-Err-clause-refused : goal.returns-in-Err-clause-refused
returns-in-Err-clause-refused g c =
    refuses_with_cause g.S.Store c.args.stores.items c.in-Err.refused c.in-Err.ensures.fault
