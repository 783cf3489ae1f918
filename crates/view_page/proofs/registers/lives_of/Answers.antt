-- The next is that of the next package.
use Rattle.std.proofs.Common.{◌≡◌, ◌∙◌, ◌<◌, ap, sym, is_ok, length, arith, Some, slice_get}
use Rattle.std.proofs.ResultArms.{chosen}
use Rattle.std.proofs.lemmas.Option.{slice_get-get_or}
use Rattle.view_page.proofs.Lives.{life_next}
use Rattle.view_page.proofs.registers.lives_of.Goals as goal

pub loop-at-preserved : goal.loop-at-preserved
loop-at-preserved c =
    let in_sights : c.loop-at.at < length c.args.sights.now = omega (arith, c.loop-at-test.true) in
    let in_sums : c.loop-at.at < length c.args.sums.now = omega (arith, c.loop-at-test.true, c.if-sums-count.false) in
    let in_loans : c.loop-at.at < length c.args.loans.now = omega
    (arith, c.loop-at-test.true, c.if-loans-count.false) in
    let sight : slice_get c.args.sights.now c.loop-at.at ≡ Some c.index-sights-at.result =
    slice_get-get_or c.args.sights.now c.loop-at.at c.index-sights-at.result in_sights
    ∙ ap (λ s. Some s) (sym c.index-sights-at.is) in
    record {
      so = λ w kept made told. chosen _ _ _ _ c.push.ensures.items (ap is_ok c.in_ok-push.was)
          ∙ life_next w c.args.sights.now c.args.sums.now c.args.loans.now c.args.receipts.now kept made told
          c.loop-at.at c.index-sights-at.result _ _ _ c.number_of.ensures sight
          (slice_get-get_or c.args.sums.now c.loop-at.at _ in_sums)
          (slice_get-get_or c.args.loans.now c.loop-at.at _ in_loans)
          c.loop-at.lives.items (c.loop-at.invariant.so w kept made told);
    }
