use Rattle.std.proofs.Common.{arith}
use Rattle.desk_calls.proofs.CallFacts.{whole_call}
use Rattle.desk_calls.proofs.reading.read_call.Goals as goal

pub call_of_head-requires-clause-short : goal.call_of_head-requires-clause-short
call_of_head-requires-clause-short g c =
    let within = rw c.in-Head.is at c.in_ok-gather_head.ensures.within in
    let fits = within.section.len_fits in
    let short = c.in_ok-gather_head.ensures.short in
    omega arith

pub returns-clause-asks : goal.returns-clause-asks
returns-clause-asks g c =
    whole_call _ _ _ _ _ c.in-Head.head _ c.in_ok-gather_head.ensures.taken
    (rw c.in-Head.is at c.in_ok-gather_head.ensures.head) c.in_ok-call-in-Head.ensures.asks
