-- One thing more.
use Rattle.std.proofs.Common.{◌+◌, take}
use Rattle.std.specs.List.{AllByRecursion}
use Rattle.std.specs.Ordering.{nat_cmp}
use Rattle.std.specs.Cmp.Lexicographic.{slice_cmp}
use Rattle.std.specs.BTreeMap.{get}
use Rattle.sheet_ledger.specs.Agreeing.{Allows, SaysSo}
use Rattle.sheet_ledger.proofs.Walking.{one_more}
use Rattle.sheet_ledger.proofs.Telling.{told_more}
use Rattle.sheet_ledger.proofs.agreeing.note_all.Goals as goal

pub loop-moved-preserved : goal.loop-moved-preserved
loop-moved-preserved c = λ thing u.
    let i = c.loop-moved.moved-index in
    told_more (SaysSo thing u) (Allows (get (slice_cmp nat_cmp) c.args.told.now thing) u)
    (Allows (get (slice_cmp nat_cmp) c.loop-moved.told thing) u)
    (Allows (get (slice_cmp nat_cmp) c.note.new.told thing) u)
    (take i c.args.things.now) (take (i + 1) c.args.things.now) c.moved-item.result
    (one_more c.args.things.now i c.moved-item.result c.loop-moved-test.true c.moved-item.is)
    (c.loop-moved.invariant thing u) (c.in_ok-note.ensures thing u)
