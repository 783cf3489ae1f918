-- Of each that is seen, and of all others.
use Rattle.sheet_balance.proofs.Summing.{sums_answer}
use Rattle.sheet_balance.proofs.sums.sums_add_up.Goals as goal

pub returns : goal.returns
returns c = sums_answer c.in_ok-flows.flows c.in_ok-uuids.uuids c.args.ledger.now c.args.holders.now
    c.are_sums_of-seen.result c.all_left-unseen.result c.in_ok-flows.ensures c.in_ok-uuids.ensures
    c.are_sums_of-seen.ensures c.all_left-unseen.ensures
