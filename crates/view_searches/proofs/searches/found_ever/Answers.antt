-- One more receipt is searched.
use Rattle.std.proofs.Common.{[], arith, subst, take}
use Rattle.std.proofs.lemmas.List.{take_all}
use Rattle.command_names.specs.Searching.{IsFound}
use Rattle.view_searches.specs.Searches.{added_by, added_of}
use Rattle.view_searches.proofs.Sifted.{flat_taken}
use Rattle.view_searches.proofs.searches.found_ever.Goals as goal

pub loop-receipt-init : goal.loop-receipt-init
loop-receipt-init c = c.nothing-found.ensures c.args.word.now

pub loop-receipt-preserved : goal.loop-receipt-preserved
loop-receipt-preserved c =
    subst (λ ids. IsFound c.args.word.now ids c.found_added-found.result)
    (flat_taken added_by c.args.receipts.now c.loop-receipt.receipt-index c.receipt-item.result
    c.loop-receipt-test.true c.receipt-item.is)
    (c.found_added-found.ensures (added_of (take c.loop-receipt.receipt-index c.args.receipts.now))
    c.loop-receipt.invariant)

pub returns : goal.returns
returns c =
    subst (λ all. IsFound c.args.word.now (added_of all) c.loop-receipt.found)
    (take_all c.loop-receipt.receipt-index c.args.receipts.now (omega (arith, c.loop-receipt-test.false)))
    c.loop-receipt.invariant
