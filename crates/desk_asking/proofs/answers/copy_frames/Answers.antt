-- A frame more, or the head of the last.
use Rattle.desk_asking.proofs.Copying.{ends_by, none_yet, one_more}
use Rattle.desk_asking.proofs.answers.copy_frames.Goals as goal

pub frames-init : goal.frames-init
frames-init g c = none_yet _ _ _

pub frames-preserved : goal.frames-preserved
frames-preserved g c =
    one_more _ _ _ _ _ _ _ _ _ _ _ _ _ c.frames.invariant c.in_ok-head.ensures
    (c.in_ok-is_told.ensures.told c.if-not-is_told.false)

pub returns-then-not-is_told : goal.returns-then-not-is_told
returns-then-not-is_told g c =
    ends_by c.end_of.result _ _ _ _ _ _ _ _ _ _ _ _ _ c.frames.invariant c.in_ok-head.ensures
    (c.in_ok-is_told.ensures.untold c.if-not-is_told.true) c.end_of.ensures
