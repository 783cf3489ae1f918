-- One more was looked at.
use Rattle.std.proofs.Common.{◌<◌, ◌≤◌, ◌+◌, sym, subst, length, arith}
use Rattle.command_folder.specs.Numbering.{IsLookAt, IsSeenOf}
use Rattle.command_folder.proofs.Walking.{Walked, walked_more, walked_all}
use Rattle.command_folder.proofs.numbering.look_at_each.Goals as goal

pub loop-at-preserved : goal.loop-at-preserved
loop-at-preserved g c =
    let old = c.args.stores.now.items in
    let at = c.loop-at.at in
    let within : at < length old = omega (arith, c.loop-at-test.true, c.len-count.ensures) in
    let sight = c.in-Some.sight in
    let look : IsLookAt g.S.Store c.loop-at.stores.items c.look_at.new.stores.items at sight =
    rw c.in-Some.is at c.in_ok-sight.ensures in
    record {
      walked =
          subst (Walked (IsSeenOf g.S.Store) old c.look_at.new.stores.items (at + 1)) (sym c.in_ok-push.ensures)
          (walked_more (IsSeenOf g.S.Store) old c.loop-at.stores.items c.look_at.new.stores.items at
          c.loop-at.sights.items within c.loop-at.invariant.walked look.was look.last look.place look.others sight
          (look.last, look.seen));
    }

pub returns : goal.returns
returns g c =
    let past : length c.args.stores.now.items ≤ c.loop-at.at =
    omega (arith, c.loop-at-test.false, c.len-count.ensures) in
    walked_all (IsSeenOf g.S.Store) c.args.stores.now.items c.loop-at.stores.items c.loop-at.at c.loop-at.sights.items
    past c.loop-at.invariant.walked
