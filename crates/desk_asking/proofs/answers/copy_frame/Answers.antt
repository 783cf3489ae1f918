-- The bytes went to the writer of their kind.
use Rattle.desk_asking.proofs.Copying.{for_errors, for_output}
use Rattle.desk_asking.proofs.answers.copy_frame.Goals as goal

pub returns-then-head-eq49-clause-told : goal.returns-then-head-eq49-clause-told
returns-then-head-eq49-clause-told g c = λ is. for_output _ _ _ _ _ _ _ c.if-head-eq49.true
    c.in_ok-copy_payload.ensures

pub returns-then-head-eq50-clause-told : goal.returns-then-head-eq50-clause-told
returns-then-head-eq50-clause-told g c =
    λ is. for_errors _ _ _ _ _ _ _ c.if-head-eq50.true c.in_ok-copy_payload-2.ensures
