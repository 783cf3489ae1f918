-- The reply is the world's, and what goes out is its.
use Rattle.desk_http.proofs.answering.apply_call.Goals as goal

pub returns : goal.returns
returns g c = (
  c.apply-reply.result,
  record {
    step = c.apply-reply.ensures.step;
    still = c.apply-reply.ensures.still;
    unharmed = c.apply-reply.ensures.unharmed;
    failed = c.apply-reply.ensures.failed;
    cause = c.apply-reply.ensures.cause;
    usable = c.apply-reply.ensures.usable;
    shelf = c.apply-reply.ensures.shelf;
  },
  c.reply_outgoing.ensures,
)
