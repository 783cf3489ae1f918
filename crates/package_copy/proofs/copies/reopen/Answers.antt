use Rattle.sqlite.specs.Held.{state}
use Rattle.sqlite.specs.Steps.{over_memory}
use Rattle.package_copy.proofs.Reopening.{clean, rests_again, keyed_again, shows_again}
use Rattle.package_copy.proofs.copies.reopen.Goals as goal

pub returns-clause-rests : goal.returns-clause-rests
returns-clause-rests c = rests_again (state over_memory c.args.conn) (state over_memory c.in_ok-readopt.field-0) clean
    c.in_ok-readopt.ensures.adopted

pub returns-clause-same : goal.returns-clause-same
returns-clause-same c = shows_again (state over_memory c.args.conn) (state over_memory c.in_ok-readopt.field-0) clean
    c.in_ok-readopt.ensures.adopted c.schema.ensures.live c.requires

pub returns-clause-keyed : goal.returns-clause-keyed
returns-clause-keyed c = keyed_again (state over_memory c.args.conn) (state over_memory c.in_ok-readopt.field-0) clean
    c.in_ok-readopt.ensures.adopted
