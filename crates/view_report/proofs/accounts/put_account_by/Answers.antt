use Rattle.std.proofs.Common.{refl}
use Rattle.view_report.proofs.accounts.put_account_by.Goals as goal

pub returns : goal.returns
returns c = rw (c.in_ok-put_account.ensures, c.flow_of-flow.ensures, c.requires.flow _) refl
