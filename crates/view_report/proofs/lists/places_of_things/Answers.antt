-- The entry before them has its place too.
use Rattle.std.proofs.Common.{◌≡◌, ◌+◌, ◌-◌, ◌<◌, arith, length, subst}
use Rattle.view_report.proofs.Placing.{ArePlacesFrom, one_noted}
use Rattle.view_report.proofs.lists.places_of_things.Goals as goal

pub loop-left-preserved : goal.loop-left-preserved
loop-left-preserved c =
    let at = c.loop-left.left - 1 in
    let within : at < length c.args.list.now = omega (arith, c.loop-left.invariant.within, c.loop-left-test.true) in
    let back : c.loop-left.left ≡ at + 1 = omega (arith, c.loop-left-test.true) in
    record {
      within = omega (arith, c.loop-left.invariant.within);
      noted = one_noted (λ t. t.identity) c.loop-left.places c.insert.new.self
          c.args.list.now at c.index-list-left.result within
          c.in_ok-insert.ensures.updates
          (subst (λ n. ArePlacesFrom (λ t. t.identity) c.loop-left.places c.args.list.now n) back
          c.loop-left.invariant.noted);
    }
