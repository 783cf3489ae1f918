use Rattle.std.proofs.Common.{arith}
use Rattle.package_creation.proofs.create.create.Goals as goal

-- a disk that is clean after the transaction was clean before it
pub returns-in-Ok-clause-clean : goal.returns-in-Ok-clause-clean
returns-in-Ok-clause-clean g c clean = omega (arith, c.in-Ok.ensures.turns.survives.clean, clean)

pub returns-in-Ok-clause-made : goal.returns-in-Ok-clause-made
returns-in-Ok-clause-made g c blank clean = let done = c.in-Ok.ensures.turns.done clean in
    (done.0 (blank (returns-in-Ok-clause-clean g c clean)), done.1)

pub returns-in-Ok-clause-rests : goal.returns-in-Ok-clause-rests
returns-in-Ok-clause-rests g c = c.in-Ok.ensures.turns.rests

pub returns-in-Err-clause-failed : goal.returns-in-Err-clause-failed
returns-in-Err-clause-failed g c = c.in-Err.ensures.turns
