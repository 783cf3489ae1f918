use Rattle.std.proofs.Common.{◌≤◌, ◌<ℤ◌, length, arith, rules}
use Rattle.std.proofs.lemmas.Int.{ints}
use Rattle.package_receipts.proofs.Saying.{one_risen, more_risen, all_risen}
use Rattle.package_receipts.proofs.rise.Goals as goal

pub loop-place-init : goal.loop-place-init
loop-place-init c = one_risen c.args.rows.now

pub loop-place-preserved : goal.loop-place-preserved
loop-place-preserved c =
    let a = c.index-rows-place.result in
    let b = c.index-rows-place-in-loop-place.result in
    let less : c.index-rows-place.result.seq <ℤ c.index-rows-place-in-loop-place.result.seq =
    first_of (search rules, omega (arith, ints, c.if-rows-place.false), grind (arith, ints)) in
    more_risen c.loop-place.place c.args.rows.now a b c.loop-place.auto.place c.index-rows-place.is
    c.index-rows-place-in-loop-place.is less c.loop-place-test.true c.loop-place.invariant

pub returns : goal.returns
returns c = λ _. let long : length c.args.rows.now ≤ c.loop-place.place =
    omega (arith, c.loop-place-test.false) in all_risen c.loop-place.place c.args.rows.now long c.loop-place.invariant
