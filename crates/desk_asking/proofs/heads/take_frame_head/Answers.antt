-- The line says the head.
use Rattle.desk_asking.proofs.Texts.{head_taken}
use Rattle.desk_asking.proofs.heads.take_frame_head.Goals as goal

pub returns-in-Some : goal.returns-in-Some
returns-in-Some g c = head_taken _ _ _ _ _ (rw c.as_slice.ensures.value at c.in-Some.ensures) c.in_ok-line.ensures
