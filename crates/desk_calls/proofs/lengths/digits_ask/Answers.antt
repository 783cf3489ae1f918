use Rattle.std.proofs.Common.{rules, drop}
use Rattle.desk_calls.proofs.LengthFacts.{too_large}
use Rattle.desk_calls.proofs.lengths.digits_ask.Goals as goal

pub returns-then-size-gt-MOST_BODY-clause-asks : goal.returns-then-size-gt-MOST_BODY-clause-asks
returns-then-size-gt-MOST_BODY-clause-asks c = too_large c.digits.size (drop c.digits.digit-index c.args.text.now)
    c.args.text.now (search rules) c.digits.invariant.value
