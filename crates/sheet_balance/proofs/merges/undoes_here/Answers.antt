-- No split has an empty target.
use Rattle.std.proofs.Common.{◌∙◌, sym, subst, ap, unwrap_or, []}
use Rattle.std.specs.List.{AllByRecursion}
use Rattle.sheet_ledger.proofs.Walking.{says_yes}
use Rattle.sheet_balance.specs.Splits.{StandsBefore, lents_in}
use Rattle.sheet_balance.proofs.merges.undoes_here.Goals as goal

pub returns-in-None : goal.returns-in-None
returns-in-None c =
    says_yes (λ _. subst (AllByRecursion (StandsBefore c.args.home c.args.receipt.now.seq))
    (sym (ap (λ o. lents_in c.args.splits.now (unwrap_or o [])) c.in-None.is ∙ c.requires)) tt)
