-- The next row is that of the next package.
use Rattle.std.proofs.Common.{◌≡◌, ◌∙◌, ◌<◌, ap, sym, is_ok, length, arith, Some, slice_get}
use Rattle.std.proofs.ResultArms.{chosen}
use Rattle.std.proofs.lemmas.Option.{slice_get-get_or}
use Rattle.view_world.proofs.Rows.{row_next}
use Rattle.view_world.proofs.packages.rows_of.Goals as goal

pub loop-at-preserved : goal.loop-at-preserved
loop-at-preserved c =
    let in_sights : c.loop-at.at < length c.args.sights.now = omega (arith, c.loop-at-test.true) in
    let in_sums : c.loop-at.at < length c.args.sums.now = omega (arith, c.loop-at-test.true, c.if-sums-count.false) in
    let in_loans : c.loop-at.at < length c.args.loans.now =
    omega (arith, c.loop-at-test.true, c.if-loans-count.false) in
    let in_moments : c.loop-at.at < length c.args.moments.now =
    omega (arith, c.loop-at-test.true, c.if-moments-count.false) in
    let sight : slice_get c.args.sights.now c.loop-at.at ≡ Some c.index-sights-at.result =
    slice_get-get_or c.args.sights.now c.loop-at.at c.index-sights-at.result in_sights
    ∙ ap (λ s. Some s) (sym c.index-sights-at.is) in
    let moment : slice_get c.args.moments.now c.loop-at.at ≡ Some c.in-Ok.changed =
    slice_get-get_or c.args.moments.now c.loop-at.at c.index-moments-at.result in_moments
    ∙ ap (λ m. Some m) (sym c.index-moments-at.is ∙ sym c.in-Ok.ensures) in
    record {
      so = λ w kept asked. chosen _ _ _ _ c.push.ensures.items (ap is_ok c.in_ok-push.was)
          ∙ row_next w c.args.sights.now c.args.sums.now c.args.loans.now c.args.moments.now kept asked c.loop-at.at
          c.index-sights-at.result _ _ c.in-Ok.changed sight
          (slice_get-get_or c.args.sums.now c.loop-at.at _ in_sums)
          (slice_get-get_or c.args.loans.now c.loop-at.at _ in_loans) moment c.loop-at.rows.items
          (c.loop-at.invariant.so w kept asked);
    }
