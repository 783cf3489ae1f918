-- One more is searched behind those so far.
use Rattle.std.proofs.Common.{◌++◌, arith, map, take, subst}
use Rattle.std.proofs.lemmas.List.{take_all}
use Rattle.sheet_types.specs.declared.command.Item.{Item}
use Rattle.command_names.specs.Searching.{IsFound}
use Rattle.command_names.proofs.Behind.{behind_more}
use Rattle.command_names.proofs.searching.found_among.Goals as goal

pub loop-item-preserved : goal.loop-item-preserved
loop-item-preserved c = λ before it.
    subst (λ ids. IsFound c.args.word.now ids c.found_with-next.result)
    (behind_more (λ (i : Item). i.identity) before c.args.items.now c.loop-item.item-index c.item-item.result
    c.loop-item-test.true c.item-item.is)
    (c.found_with-next.ensures (before ++ map (λ (i : Item). i.identity)
    (take c.loop-item.item-index c.args.items.now)) (c.loop-item.invariant before it))

pub returns : goal.returns
returns c = λ before it.
    subst (λ all. IsFound c.args.word.now (before ++ map (λ (i : Item). i.identity) all) c.loop-item.next)
    (take_all c.loop-item.item-index c.args.items.now (omega (arith, c.loop-item-test.false)))
    (c.loop-item.invariant before it)
