use Rattle.std.proofs.Common.{inl, inr, refl}
use Rattle.command_ordering.proofs.putting.put_tree_for.Goals as goal

pub returns-in-Ok : goal.returns-in-Ok
returns-in-Ok g c =
    let done = c.put_tree_with-ending.ensures in
    inr (c.in-Ok.field-0.world, done.0, (_, c.in-Ok.ensures), done.2)

pub returns-in-Err : goal.returns-in-Err
returns-in-Err g c = inl (c.in-Err.fault, refl, refl, refl)
