-- The request that was made is the one that was answered.
use Rattle.std.proofs.Common.{inl, inr}
use Rattle.command_ordering.proofs.orders.order_over.Goals as goal

pub returns-in-Ok : goal.returns-in-Ok
returns-in-Ok g c =
    inr (
      c.in-Ok.request,
      c.request_for.new.world,
      c.in-Ok.ensures.read,
      (λ clean w stands. c.in-Ok.ensures.told clean w stands),
      c.answer_in.ensures,
    )

pub returns-in-Err : goal.returns-in-Err
returns-in-Err g c =
    inl (
      c.in-Err.why,
      c.in-Err.ensures.read,
      (λ clean w stands. c.in-Err.ensures.told clean w stands),
      c.tell_unasked.ensures,
    )
