-- What stands before the first space has none; where there is no space, nothing has.
use Rattle.std.proofs.Common.{lit<, subst, sym}
use Rattle.sheet_ledger.specs.Slots.{Lacks}
use Rattle.sheet_ledger.proofs.Slots.{lacks_all, cut_at}
use Rattle.sheet_ledger.proofs.entries.cut.Goals as goal

pub returns-in_default-clause-none : goal.returns-in_default-clause-none
returns-in_default-clause-none c = lacks_all 32 c.args.text.now (c.in_default.ensures.byte (lit< tt) (λ w o h. h))

pub returns-clause-lacks : goal.returns-clause-lacks
returns-clause-lacks c = subst (Lacks 32) (sym (c.in-Some.ensures.byte (lit< tt) (λ w o h. h)).0)
    (cut_at 32 c.args.text.now)
