-- One store more.
use Rattle.std.proofs.Common.{◌+◌, ◌||◌, take}
use Rattle.sheet_ledger.proofs.Walking.{one_more}
use Rattle.opening_faults.specs.Sights.{is_root}
use Rattle.opening_faults.specs.Splits.{is_lent_in}
use Rattle.opening_faults.proofs.Listing.{made_more}
use Rattle.opening_live.proofs.naming.all_named.Goals as goal

pub loop-sight-preserved : goal.loop-sight-preserved
loop-sight-preserved c =
    let i = c.loop-sight.sight-index in
    let s = c.sight-item.result in
    made_more (λ x. is_root x || is_lent_in c.args.loans.now x) c.loop-sight.flags.items c.push.new.self.items
    (take i c.args.sights.now) (take (i + 1) c.args.sights.now) s c.in_ok-named.named
    (one_more c.args.sights.now i s c.loop-sight-test.true c.sight-item.is) c.loop-sight.invariant
    c.in_ok-named.ensures c.in_ok-push.ensures.items
