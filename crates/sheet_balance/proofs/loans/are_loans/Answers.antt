-- The last merges are those of the ledger.
use Rattle.sheet_balance.proofs.Lending.{loans_answer}
use Rattle.sheet_balance.proofs.loans.are_loans.Goals as goal

pub returns : goal.returns
returns c = loans_answer c.in_ok-merges.merges c.args.splits.now c.args.ledger.now c.args.holders.now
    c.are_loans_seen.result c.in_ok-merges.ensures c.are_loans_seen.ensures
