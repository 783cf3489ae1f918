-- The homes are those of a ledger that is in turn.
use Rattle.sheet_balance.proofs.Coming.{homes_answer}
use Rattle.sheet_balance.proofs.homes.are_at_home.Goals as goal

pub returns : goal.returns
returns c = homes_answer c.in_ok-homes.homes c.args.ledger.now c.args.holders.now c.all_at_home.result
    c.in_ok-homes.ensures c.all_at_home.ensures
