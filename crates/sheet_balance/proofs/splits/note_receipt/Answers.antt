-- What has no target, or is no split, adds nothing; a split is put behind the others of its target.
use Rattle.sheet_balance.specs.Splits.{lents_in, lents_by}
use Rattle.sheet_balance.proofs.Splitting.{adds_none, no_target}
use Rattle.sheet_balance.proofs.splits.note_receipt.Goals as goal

pub returns-in_default-clause-noted : goal.returns-in_default-clause-noted
returns-in_default-clause-noted c = λ p. adds_none (lents_in c.args.splits.now p)
    (lents_by c.args.home p c.args.receipt.now) (no_target c.args.home p c.args.receipt.now c.in_default.is)
