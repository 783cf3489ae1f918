-- A piece more.
use Rattle.std.proofs.Common.{arith, rules}
use Rattle.desk_asking.proofs.Copying.{all_moved, more_moved, none_moved}
use Rattle.desk_asking.proofs.payloads.copy_payload.Goals as goal

pub loop-left-init : goal.loop-left-init
loop-left-init g c = none_moved _ _ _

pub loop-left-preserved : goal.loop-left-preserved
loop-left-preserved g c = more_moved _ _ _ _ _ _ _ _ _ _ c.loop-left.invariant c.in_ok-copy_piece.ensures
    (search rules) (search rules)

pub returns : goal.returns
returns g c = all_moved _ _ _ _ _ _ (omega arith) c.loop-left.invariant
