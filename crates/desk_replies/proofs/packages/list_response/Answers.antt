use Rattle.std.proofs.Common.{◌≡◌, ◌∙◌}
use Rattle.desk_replies.proofs.ListFacts.{world_told}
use Rattle.desk_replies.proofs.packages.list_response.Goals as goal

pub returns-clause-told : goal.returns-clause-told
returns-clause-told c =
    let made = rw c.in_ok-body.ensures at (rw c.as_slice.ensures.value at c.in_ok-bytes.ensures) in
    λ w same. made ∙ world_told w c.args.packages.now same
