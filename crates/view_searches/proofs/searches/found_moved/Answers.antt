-- One more is searched behind those so far.
use Rattle.std.proofs.Common.{◌++◌, arith, sym, subst, take}
use Rattle.std.proofs.lemmas.List.{take_all}
use Rattle.command_names.specs.Searching.{IsFound}
use Rattle.view_searches.specs.Searches.{identities_of}
use Rattle.view_searches.proofs.Sifted.{identities_more, nothing_more}
use Rattle.view_searches.proofs.searches.found_moved.Goals as goal

pub loop-thing-init : goal.loop-thing-init
loop-thing-init c = λ before it. subst (λ ids. IsFound c.args.word.now ids c.args.found) (sym (nothing_more before))
    it

pub loop-thing-preserved : goal.loop-thing-preserved
loop-thing-preserved c = λ before it.
    subst (λ ids. IsFound c.args.word.now ids c.found_thing-next.result)
    (identities_more before c.args.things.now c.loop-thing.thing-index c.thing-item.result c.loop-thing-test.true
    c.thing-item.is)
    (c.found_thing-next.ensures (before ++ identities_of (take c.loop-thing.thing-index c.args.things.now))
    (c.loop-thing.invariant before it))

pub returns : goal.returns
returns c = λ before it.
    subst (λ all. IsFound c.args.word.now (before ++ identities_of all) c.loop-thing.next)
    (take_all c.loop-thing.thing-index c.args.things.now (omega (arith, c.loop-thing-test.false)))
    (c.loop-thing.invariant before it)
