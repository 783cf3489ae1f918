-- The parent is there.
use Rattle.sheet_balance.proofs.Lending.{loan_by}
use Rattle.sheet_balance.proofs.loans.is_loan.Goals as goal

pub returns : goal.returns
returns c =
    loan_by c.args.merges.now c.args.splits.now c.args.holder.now c.in-Some.parent c.lents_of.result.now
    c.stands_in.result c.is_open.result c.in-Some.is c.lents_of.ensures c.stands_in.ensures c.is_open.ensures
