use Rattle.std.proofs.Common.{inr}
use Rattle.commands.proofs.working.work_at.Goals as goal

pub returns-in-Ok : goal.returns-in-Ok
returns-in-Ok g c =
    let done = c.work_in-ending.ensures in
    inr (c.in-Ok.field-0.world, done.0, (_, c.in-Ok.ensures), done.2)
