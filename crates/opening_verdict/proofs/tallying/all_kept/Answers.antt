-- One store more.
use Rattle.std.proofs.Common.{◌<◌, length, ap, sym, subst, ◌∙◌, is_ok, Some, None, true, false, get_or}
use Rattle.std.proofs.Common.{slice_get}
use Rattle.std.proofs.Common.{arith, inr, ◌+◌}
use Rattle.std.proofs.lemmas.Option.{slice_get-get_or}
use Rattle.std.proofs.ResultArms.{chosen}
use Rattle.opening_verdict.specs.Tallies.{IsSomeUnkept, IsWantOr}
use Rattle.opening_verdict.proofs.Keeping.{IsKeeping, keeps_on}
use Rattle.opening_verdict.proofs.Lists.{err_same}
use Rattle.opening_verdict.proofs.tallying.all_kept.Goals as goal

pub returns-in_err-kept-clause-fault : goal.returns-in_err-kept-clause-fault
returns-in_err-kept-clause-fault c =
    let i = c.loop-place.place in
    let lt_b : i < length c.args.live.now = omega (arith, c.loop-place-test.true, c.requires.live) in
    let lt_o : i < length c.args.sums.now = omega (arith, c.loop-place-test.true, c.requires.sums) in
    let fault = c.in_err-kept.ensures.fault in
    err_same (IsWantOr (IsSomeUnkept c.args.live.now c.args.sums.now)) c.from_residual-in_err-kept.result
    c.in_err-kept.field-0.0 c.from_residual-in_err-kept.ensures.1
    (inr (
      fault.0,
      (
        i,
        slice_get-get_or c.args.live.now i false lt_b
            ∙ ap Some fault.1,
        slice_get-get_or c.args.sums.now i None lt_o ∙ ap Some fault.2,
      ),
    ))

pub loop-place-preserved : goal.loop-place-preserved
loop-place-preserved c =
    let i = c.loop-place.place in
    let lt_b : i < length c.args.live.now = omega (arith, c.loop-place-test.true, c.requires.live) in
    let lt_o : i < length c.args.sums.now = omega (arith, c.loop-place-test.true, c.requires.sums) in
    subst (IsKeeping c.args.ledger.now c.args.heads.now c.args.live.now c.args.sums.now (i + 1))
    (sym (chosen _ _ _ _ c.push.ensures.items (ap is_ok c.in_ok-push.was)))
    (keeps_on c.args.ledger.now c.args.heads.now c.args.live.now c.args.sums.now i c.loop-place.all.items
    c.index-heads-place.result (get_or c.args.live.now i false) (get_or c.args.sums.now i None) c.in_ok-kept.kept
    (slice_get-get_or c.args.heads.now i c.index-heads-place.result c.loop-place-test.true
    ∙ ap Some (sym c.index-heads-place.is)) (slice_get-get_or c.args.live.now i false lt_b)
    (slice_get-get_or c.args.sums.now i None lt_o)
    c.loop-place.invariant (c.in_ok-kept.ensures.kept c.args.ledger.now c.in_ok-last.ensures))
