-- The line is empty, is a request, is none, or is not known to be one.
use Rattle.std.proofs.Common.{◌≡◌, None, Some, inl, inr, refl, rules}
use Rattle.request_json.specs.Requests.{IsRequestText}
use Rattle.commands.proofs.StreamFacts.{none_found, some_found}
use Rattle.commands.proofs.streaming.answer_line.Goals as goal

pub returns-then-is_empty_line : goal.returns-then-is_empty_line
returns-then-is_empty_line g c = inl (inl (c.is_empty_line.ensures.0 c.if-is_empty_line.true, refl), refl, refl)

pub returns-in-Ok-Some : goal.returns-in-Ok-Some
returns-in-Ok-Some g c =
    let found : c.in-Ok-Some.field-0 ≡ Some c.in-Ok-Some.request = search rules in
    inr (inr (
      c.in-Ok-Some.request,
      some_found _ _ (λ q. IsRequestText c.args.line.now q) found c.in-Ok-Some.ensures.some,
      c.answer.ensures,
    ))

pub returns-in-Ok-None : goal.returns-in-Ok-None
returns-in-Ok-None g c =
    let none : c.in-Ok-None.field-0 ≡ None = search rules in
    inr (inl (none_found _ _ none c.in-Ok-None.ensures.none, refl, c.tell_bad.ensures))

pub returns-in-Err : goal.returns-in-Err
returns-in-Err g c = inl (inr refl, refl, refl)
