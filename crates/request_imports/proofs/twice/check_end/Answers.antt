-- The second reading is at its end, goes on, or met a fault.
use Rattle.std.proofs.Common.{arith}
use Rattle.request_csv.proofs.ReaderFacts.{stands_begun}
use Rattle.request_imports.proofs.TwiceFacts.{ends_broken, ends_long}
use Rattle.request_imports.proofs.twice.check_end.Goals as goal

pub returns-in-Ok-None-clause-ends : goal.returns-in-Ok-None-clause-ends
returns-in-Ok-None-clause-ends g c = λ text before long stands.
    (long, (rw (c.in-Ok-None.is, c.in-Ok-None.field-0-is) at c.next_request.ensures.end) text before stands)

pub returns-in-Ok-Some-clause-ends : goal.returns-in-Ok-Some-clause-ends
returns-in-Ok-Some-clause-ends g c = λ text before long stands.
    ends_long c.args.done text before c.in-Ok-Some._more long
    (stands_begun g.Q.Read.remaining text c.args.list.now before stands)
    (stands_begun g.Q.Read.remaining text c.next_request.new.self _
    ((rw (c.in-Ok-Some.is, c.in-Ok-Some.field-0-is) at c.next_request.ensures.more) text before stands))

pub returns-in-Err-clause-ends : goal.returns-in-Err-clause-ends
returns-in-Err-clause-ends g c = λ text before long stands.
    ends_broken g.Q.Read.remaining g.Q.ListSource.never_fails c.args.list.now c.in-Err.fault
    (rw c.in-Err.is at c.next_request.ensures.fault)
    c.args.done c.args.done text before (omega arith) long stands
