-- The number of each is one more than there are before it.
use Rattle.std.proofs.Common.{◌≡◌, length, take, arith, ap, ◌+◌, ◌∙◌, sym}
use Rattle.std.proofs.lemmas.List.{length-take-le}
use Rattle.sheet_ledger.specs.Parts.{HasNextNumber}
use Rattle.sheet_ledger.proofs.Walking.{says_no, each_more, each_fails}
use Rattle.sheet_ledger.proofs.numbering.are_numbered.Goals as goal

pub returns-then-receipt-at : goal.returns-then-receipt-at
returns-then-receipt-at c =
    let long : length (take c.loop-at.at c.args.receipts.now) ≡ c.loop-at.at =
    length-take-le c.loop-at.at c.args.receipts.now (omega arith) in
    says_no (each_fails HasNextNumber c.args.receipts.now c.loop-at.at c.index-receipts-at.result c.loop-at-test.true
    c.index-receipts-at.is (λ is. c.if-receipt-at.true (is ∙ ap (λ n. n + 1) long)))

pub loop-at-preserved : goal.loop-at-preserved
loop-at-preserved c =
    let long : length (take c.loop-at.at c.args.receipts.now) ≡ c.loop-at.at =
    length-take-le c.loop-at.at c.args.receipts.now (omega arith) in
    each_more HasNextNumber c.args.receipts.now c.loop-at.at c.index-receipts-at.result c.loop-at-test.true
    c.index-receipts-at.is c.loop-at.invariant (c.if-receipt-at.false ∙ ap (λ n. n + 1) (sym long))
