-- Frames behind a head.
use Rattle.desk_asking.proofs.Copying.{behind_head}
use Rattle.desk_asking.proofs.answers.copy_answer.Goals as goal

pub returns : goal.returns
returns g c = behind_head c.copy_frames.result _ _ _ _ _ _ _ c.in_ok-take_head.ensures c.copy_frames.ensures
