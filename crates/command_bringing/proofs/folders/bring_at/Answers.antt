use Rattle.std.proofs.Common.{inr}
use Rattle.command_bringing.proofs.folders.bring_at.Goals as goal

pub returns-in-Ok : goal.returns-in-Ok
returns-in-Ok g c = inr (c.in-Ok.field-0.world, _, (_, c.in-Ok.ensures), c.bring_with-ending.ensures)
