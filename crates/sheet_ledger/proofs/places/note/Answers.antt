-- One key is set.
use Rattle.std.proofs.Common.{subst, Some, ap}
use Rattle.std.specs.Ordering.{nat_cmp}
use Rattle.std.specs.Cmp.Lexicographic.{slice_cmp}
use Rattle.std.specs.BTreeMap.{Updates}
use Rattle.sheet_types.specs.World.{moved_thing}
use Rattle.sheet_ledger.proofs.Custody.{placed}
use Rattle.sheet_ledger.proofs.places.note.Goals as goal

pub returns : goal.returns
returns c = placed c.args.places.now c.insert.new.self (moved_thing c.args.moved.now) c.args.target.now
    (subst (λ k. Updates (slice_cmp nat_cmp) c.args.places.now c.insert.new.self k (Some c.args.target.now))
    c.of_moved.ensures c.in_ok-insert.ensures.updates)
