use Rattle.desk_replies.proofs.responses.conflict_response.Goals as goal

pub returns : goal.returns
returns c = rw c.in_ok-body.ensures at (rw c.as_bytes.ensures.value at c.response.ensures)
