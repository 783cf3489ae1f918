-- A receipt that names the item moves it, and another leaves it where it is.
use Rattle.std.proofs.Common.{◌≡◌, ◌∙◌, ◌+◌, ◌++◌, ◌∷◌, [], ℕ, List, take, subst, sym}
use Rattle.std.proofs.Common.{arith, true, false}
use Rattle.std.proofs.lemmas.Grind.{common_steps}
use Rattle.sheet_types.specs.Balance.{names_identity}
use Rattle.sheet_types.specs.declared.receipt.Receipt.{Receipt}
use Rattle.view_text.specs.Ways.{place_by}
use Rattle.view_text.proofs.LastNamed.{place_moves, place_stays}
use Rattle.view_text.proofs.ways.place_by.Goals.{then-names_item, else-names_item}
use Rattle.view_text.proofs.ways.place_by.Goals as goal

pub loop-receipt-preserved : goal.loop-receipt-preserved
loop-receipt-preserved c =
    let rs : List Receipt = c.args.receipts.now in
    let r : Receipt = c.receipt-item.result in
    let id : List ℕ = c.args.identity in
    let before : List Receipt = take c.loop-receipt.receipt-index rs in
    let more : take (c.loop-receipt.receipt-index + 1) rs ≡ before ++ r ∷ [] =
    grind (arith, common_steps, c.receipt-item.is, c.loop-receipt-test.true) in
    subst (λ xs. c.if-names_item.place ≡ place_by xs id) (sym more)
    (elim c.if-names_item.branch [
      | then-names_item w ↦
          let named : names_identity id r ≡ true = sym c.names_item.ensures ∙ w.if-names_item.true in
          w.place-is ∙ sym (place_moves id before r named)
      | else-names_item w ↦
          let other : names_identity id r ≡ false = sym c.names_item.ensures ∙ w.if-names_item.false in
          w.place-is ∙ c.loop-receipt.invariant ∙ sym (place_stays id before r other)
    ])
