-- The list is none; or its file was answered.
use Rattle.std.proofs.Common.{inl, refl}
use Rattle.world.specs.Worlds.{StandsFor}
use Rattle.command_field.proofs.Told.{told_listed}
use Rattle.command_field.proofs.asking.answer_listed.Goals as goal

pub returns-in-None-clause-told : goal.returns-in-None-clause-told
returns-in-None-clause-told g c = λ clean w stands seen.
    let none = rw c.in-None.is at c.in_ok-held.ensures in
    inl (refl, none)

pub returns-in-Some-clause-told : goal.returns-in-Some-clause-told
returns-in-Some-clause-told g c = λ clean.
    let listed = rw c.in-Some.is at c.in_ok-held.ensures in
    told_listed (StandsFor g.S.Store c.args.world.now) c.args.ask.now c.args.number
    (c.args.holdings.now.items.now, c.args.holdings.now.links.now)
    (g.R.Read.remaining c.args.reader) c.in-Some.held c.answer_in.result
    listed (c.answer_in.ensures.told clean)
