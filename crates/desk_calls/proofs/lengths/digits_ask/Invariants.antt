-- The digits so far and those to come are the whole number.
use Rattle.std.proofs.Common.{◌≡◌, drop}
use Rattle.std.specs.Str.Parse.{digits_value, digits_value_after}
use Rattle.desk_calls.proofs.lengths.digits_ask.Given as goal

abbrev pub invariant-digits : goal.invariant-digits
invariant-digits l = record {
  value : digits_value_after 10 l.size (drop l.digit-index l.text)
      ≡ digits_value 10 l.text;
}
