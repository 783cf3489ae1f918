use Rattle.std.proofs.Common.{◌<◌, ◌≤◌, ◌∙◌, length, rules}
use Rattle.httparse.specs.Grammar.{AllPass}
use Rattle.std.specs.Char.{is_ascii_digit}
use Rattle.desk_calls.proofs.LengthFacts.{length_is}
use Rattle.desk_calls.proofs.lengths.length_asks.Goals as goal

pub returns-clause-asks : goal.returns-clause-asks
returns-clause-asks c =
    let some : 0 < length c.args.text.now = search rules in
    let few : length c.args.text.now ≤ 9 = search rules in
    let digits : AllPass is_ascii_digit c.args.text.now = search rules in
    c.digits_ask.ensures.asks ∙ length_is c.args.text.now some few digits
