use Rattle.transfer.proofs.Trying.{tried}
use Rattle.transfer.proofs.putting.put_item.Goals as goal

pub returns-clause-steps : goal.returns-clause-steps
returns-clause-steps g c = tried c.args.item.now c.fits.ensures c.add_if_room.ensures.steps
