-- The first line is a request by itself, or all is one.
use Rattle.std.proofs.Common.{◌≡◌, ◌∷◌, Some, inl, inr, refl, rules, subst}
use Rattle.request_json.specs.Requests.{IsRequestText}
use Rattle.sheet_types.specs.declared.command.Request.{Request}
use Rattle.commands.proofs.LineFacts.{behind_line, first_of}
use Rattle.commands.proofs.StreamFacts.{applies_where, some_found}
use Rattle.commands.proofs.streaming.apply_lines.Goals as goal

pub returns-in-Err : goal.returns-in-Err
returns-in-Err g c = inl (inl (c.in-Err.ensures.unread, refl, refl))

pub returns-in-Ok-Some : goal.returns-in-Ok-Some
returns-in-Ok-Some g c =
    let rest = c.apply_rest.ensures in
    let found : c.in-Ok-Some.field-0 ≡ Some c.in-Ok-Some.request = search rules in
    let asked : IsRequestText c.in-Ok.line.items c.in-Ok-Some.request =
    subst (λ t. IsRequestText t c.in-Ok-Some.request)
    c.deref.ensures.value (some_found _ _ (λ q. IsRequestText c.deref.result.now q) found c.in-Ok-Some.ensures.some) in
    inr (
      first_of _ _ c.in-Ok.line.items (λ t. (q : Request) × IsRequestText t q) c.in-Ok.ensures.line
          (c.in-Ok-Some.request, asked),
      record {
        lines = c.in-Ok.line.items ∷ rest.lines;
        last = rest.last;
        taken = (
          _,
          record {
            goes_on = refl;
            read = c.in-Ok.ensures.line;
            ending = c.answer.result;
            taken = inr (inr (c.in-Ok-Some.request, asked, c.answer.ensures));
            next_ending = c.ending_then-ending.ensures;
          },
          rest.taken,
        );
        world = rest.world;
        ended = rest.ended;
      },
    )

pub returns-in-Ok-None : goal.returns-in-Ok-None
returns-in-Ok-None g c =
    inl (applies_where _ _ _ _ _ _ _ _ _ _
    (λ q so. behind_line _ _ c.in-Ok.line.items (λ t. IsRequestText t q) c.in-Ok.ensures.line.0 so)
    c.apply_behind.ensures)

pub returns-in-Err-read_request : goal.returns-in-Err-read_request
returns-in-Err-read_request g c = inl (inl (inl refl, refl, refl))
