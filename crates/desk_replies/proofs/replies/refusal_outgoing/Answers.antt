use Rattle.std.proofs.Common.{◌≡◌, ◌∙◌, inl, inr, refl}
use Rattle.desk_replies.proofs.ReplyFacts.{answered, by_the_rules}
use Rattle.desk_replies.proofs.replies.refusal_outgoing.Goals as goal

pub returns-in-Ok : goal.returns-in-Ok
returns-in-Ok c = answered c.args.why.now _ c.in_default.not-StoreFault (inl (c.in-Ok.ensures
    ∙ by_the_rules c.args.why.now c.in_default.not-OutOfMemory c.in_default.not-StoreFault))

pub returns-in-Err : goal.returns-in-Err
returns-in-Err c = answered c.args.why.now _ c.in_default.not-StoreFault (inr refl)
