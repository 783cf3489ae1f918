-- One receipt more.
use Rattle.std.proofs.Common.{◌≡◌, ◌∙◌, sym, ap, subst, ◌+◌, ◌++◌, ◌∷◌, [], take}
use Rattle.std.specs.List.{AllByRecursion}
use Rattle.std.proofs.lemmas.List.{take_more}
use Rattle.world_known.specs.Known.{Notes}
use Rattle.world_known.proofs.Remembering.{notes_more}
use Rattle.world_known.proofs.known.Known.note_all.Goals as goal

pub loop-receipt-preserved : goal.loop-receipt-preserved
loop-receipt-preserved c =
    let r = c.receipt-item.result in
    let more : take (c.loop-receipt.receipt-index + 1) c.args.receipts.now
    ≡ take c.loop-receipt.receipt-index c.args.receipts.now ++ r ∷ [] =
    take_more c.args.receipts.now c.loop-receipt.receipt-index r c.loop-receipt-test.true
    ∙ ap (λ x. take c.loop-receipt.receipt-index c.args.receipts.now ++ x ∷ []) (sym c.receipt-item.is) in
    record {
      notes = subst (AllByRecursion (Notes c.note.new.self)) (sym more)
          (notes_more c.loop-receipt.self c.note.new.self (take c.loop-receipt.receipt-index c.args.receipts.now) r
          c.note.ensures.grows c.in_ok-note.ensures.notes c.loop-receipt.invariant.notes);
      grows = λ id is. c.note.ensures.grows id (c.loop-receipt.invariant.grows id is);
    }
