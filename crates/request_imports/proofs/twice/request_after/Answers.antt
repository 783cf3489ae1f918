-- The second reading ended too early, or met a fault.
use Rattle.std.proofs.Common.{arith}
use Rattle.request_imports.proofs.TwiceFacts.{ends_broken, ends_short}
use Rattle.request_imports.proofs.twice.request_after.Goals as goal

pub returns-in-Ok-None-clause-fault : goal.returns-in-Ok-None-clause-fault
returns-in-Ok-None-clause-fault g c = λ count text before few long stands.
    ends_short count c.args.done text before few long ((rw (c.in-Ok-None.is, c.in-Ok-None.field-0-is) at
    c.next_request.ensures.end) text before stands)

pub returns-in-Err-clause-fault : goal.returns-in-Err-clause-fault
returns-in-Err-clause-fault g c = λ count text before few long stands.
    ends_broken g.Q.Read.remaining g.Q.ListSource.never_fails c.args.list.now c.in-Err.fault
    (rw c.in-Err.is at c.next_request.ensures.fault)
    count c.args.done text before (omega (arith, few)) long stands
