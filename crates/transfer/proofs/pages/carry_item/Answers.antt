use Rattle.sqlite.specs.Held.{state}
use Rattle.transfer.proofs.Carrying.{carried_one}
use Rattle.transfer.proofs.pages.carry_item.Goals as goal

pub returns-clause-steps : goal.returns-clause-steps
returns-clause-steps g c = carried_one c.args.identity c.in_ok-item.item (state g.S.Store c.args.source.now)
    (state g.S.Store c.item_in.new.conn) c.in_ok-item.ensures.told c.put_item.ensures.steps
