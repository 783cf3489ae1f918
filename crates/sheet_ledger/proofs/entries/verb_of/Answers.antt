-- The first space is found once.
use Rattle.std.proofs.Common.{subst}
use Rattle.sheet_ledger.specs.Slots.{Lacks}
use Rattle.sheet_ledger.proofs.Slots.{not_lacking}
use Rattle.sheet_ledger.proofs.Verbs.{first_is}
use Rattle.sheet_ledger.proofs.entries.verb_of.Goals as goal

pub returns-in-Some : goal.returns-in-Some
returns-in-Some c = first_is c.args.text.now c.in-Some.verb.now c.in-Some._rest.now
    (rw c.in-Some.is at c.cut.ensures.some) (rw c.in-Some.is at c.cut.ensures.lacks)

pub returns-in-None : goal.returns-in-None
returns-in-None c = λ word rest lacks same. absurd (not_lacking 32 word rest
    (subst (Lacks 32) same (rw c.in-None.is at c.cut.ensures.none)))
