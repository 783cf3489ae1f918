-- All bytes were read, or nothing was done.
use Rattle.std.proofs.Common.{inl, inr, refl}
use Rattle.command_ordering.proofs.orders.order_in.Goals as goal

pub returns-in-Ok : goal.returns-in-Ok
returns-in-Ok g c = inr (c.in-Ok.bytes.items, c.in-Ok.ensures.bytes, c.order_over.ensures)

pub returns-in-Err : goal.returns-in-Err
returns-in-Err g c = inl (c.in-Err.ensures.unread, refl, refl)
