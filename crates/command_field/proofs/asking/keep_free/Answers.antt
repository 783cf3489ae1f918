-- What is taken is told; else the answer stays.
use Rattle.command_field.proofs.Told.{free_stays, taken_stays}
use Rattle.command_field.proofs.asking.keep_free.Goals as goal

pub returns-in-Some-clause-told : goal.returns-in-Some-clause-told
returns-in-Some-clause-told g c = λ clean w stands.
    let told = rw c.in-Some.is at c.in_ok-taken.ensures.told in
    taken_stays w c.args.holdings.now.items.now c.args.holdings.now.links.now c.args.first c.in-Some.taken
    (told clean w stands)

pub returns-in-None-clause-told : goal.returns-in-None-clause-told
returns-in-None-clause-told g c = λ clean w stands.
    let told = rw c.in-None.is at c.in_ok-taken.ensures.told in
    free_stays w c.args.holdings.now.items.now c.args.holdings.now.links.now c.args.first (told clean w stands)
