-- The key is the clerk's.
use Rattle.std.proofs.Common.{inr}
use Rattle.desk_http.proofs.Barring.{no_key}
use Rattle.desk_http.proofs.commands.read_asked.Goals as goal

pub returns-in-Some-clause-passes : goal.returns-in-Some-clause-passes
returns-in-Some-clause-passes g c = rw c.in-Some.ensures.some at c.read_whole.ensures.passes

pub returns-in-Some-clause-none : goal.returns-in-Some-clause-none
returns-in-Some-clause-none g c = rw c.in-Some.ensures.some at c.read_whole.ensures.none

pub returns-in-None-clause-none : goal.returns-in-None-clause-none
returns-in-None-clause-none g c = inr (no_key _ _ _ (rw c.in-None.is at c.key.ensures.none))
