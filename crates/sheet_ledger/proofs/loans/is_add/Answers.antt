-- A line of another verb is none of these.
use Rattle.std.proofs.Common.{subst}
use Rattle.sheet_ledger.proofs.Verbs.{StandsFirst, no_add}
use Rattle.sheet_ledger.proofs.loans.is_add.Goals as goal

pub returns-in_default : goal.returns-in_default
returns-in_default c = no_add c.args.receipt.now.line c.verb_of.result.now
    (subst (λ t. StandsFirst t c.verb_of.result.now) c.as_str-line.ensures c.verb_of.ensures) c.in_default.not-add
