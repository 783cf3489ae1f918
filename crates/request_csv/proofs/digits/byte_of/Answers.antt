-- One of the two is no digit.
use Rattle.std.proofs.Common.{inl, inr, arith}
use Rattle.request_csv.proofs.DigitFacts.{byte_unread}
use Rattle.request_csv.proofs.digits.byte_of.Goals as goal
use Rattle.request_csv.proofs.digits.byte_of.Goals.{else-first-lt16-via-then-first-lt16+else-second-lt16}
use Rattle.request_csv.proofs.digits.byte_of.Goals.{else-first-lt16-via-else-first-lt16}

pub returns-else-first-lt16-clause-none : goal.returns-else-first-lt16-clause-none
returns-else-first-lt16-clause-none c =
    byte_unread c.args.values.now c.args.high c.args.low c.requires (omega arith) (omega arith)
    (elim c.else-first-lt16.branch [
      | else-first-lt16-via-then-first-lt16+else-second-lt16 w ↦ inr (omega arith)
      | else-first-lt16-via-else-first-lt16 w ↦ inl (omega arith)
    ])
