use Rattle.desk_calls.proofs.LengthFacts.{second, yet_more}
use Rattle.desk_calls.proofs.lengths.with_one_more.Goals as goal

pub returns-in-One : goal.returns-in-One
returns-in-One c = λ before found. second before c.in-One.field-0.now c.args.value.now (rw c.in-One.is at found)

pub returns-in-More : goal.returns-in-More
returns-in-More c = λ before found. yet_more before c.args.value.now (rw c.in-More.is at found)
