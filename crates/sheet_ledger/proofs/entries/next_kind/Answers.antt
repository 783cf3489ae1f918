-- No such part stands before a space, where there is no space or where another text stands there.
use Rattle.sheet_ledger.specs.Slots.{OfKind}
use Rattle.sheet_ledger.proofs.Slots.{no_front_uncut, no_front_cut}
use Rattle.sheet_ledger.proofs.entries.next_kind.Goals as goal

pub returns-in_default-clause-none : goal.returns-in_default-clause-none
returns-in_default-clause-none c = no_front_uncut OfKind c.args.text.now c.in_default.ensures.none

pub returns-in-None-clause-none : goal.returns-in-None-clause-none
returns-in-None-clause-none c = no_front_cut OfKind c.args.text.now c.in-Some.front.now c.in-Some.rest.now
    c.in-Some.ensures.some c.in-Some.ensures.lacks c.in-None.ensures.none
