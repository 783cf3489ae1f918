-- The account is that of the world.
use Rattle.sheet_balance.proofs.Judged.{if_ok}
use Rattle.sheet_balance.proofs.judging.judge.Goals as goal

pub returns : goal.returns
returns c =
    if_ok c.judge_account.result _ _ (λ balanced said w seen. said w (c.in_ok-account.ensures w seen))
    c.judge_account.ensures
