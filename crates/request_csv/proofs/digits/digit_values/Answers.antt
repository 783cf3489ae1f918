-- The table has the values of all bytes.
use Rattle.std.proofs.Common.{arith}
use Rattle.request_csv.proofs.digits.digit_values.Goals as goal

pub returns : goal.returns
returns c = λ byte low. c.loop-i.invariant.1 byte (omega arith)
