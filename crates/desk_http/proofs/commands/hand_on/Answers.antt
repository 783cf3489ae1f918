-- The clerk was asked, or nothing was made of the world.
use Rattle.std.proofs.Common.{inl, inr, refl}
use Rattle.desk_http.proofs.ServedBy.{same_by}
use Rattle.desk_http.proofs.commands.hand_on.Goals as goal

pub returns-in-Ok-clause-handed : goal.returns-in-Ok-clause-handed
returns-in-Ok-clause-handed g c = inl record {
  begun = _;
  head = rw (c.in-Ok.is, c.answer_head.ensures) at c.send.ensures.ok;
  done = c.attend.ensures.attends;
  told = refl;
}

pub returns-in-Err-clause-served : goal.returns-in-Err-clause-served
returns-in-Err-clause-served g c = same_by g.S.Store c.args.world.now c.args.world.now refl

pub returns-in-Err-clause-handed : goal.returns-in-Err-clause-handed
returns-in-Err-clause-handed g c = inr (
  record { world_stays = refl; shelf_stays = refl; clerk_stays = refl },
  (rw (c.in-Err.is, c.answer_head.ensures) at c.send.ensures.err, refl),
)
