-- All bytes are one request, or nothing was done.
use Rattle.std.proofs.Common.{inl, inr, refl, subst}
use Rattle.request_json.specs.Requests.{IsRequestText}
use Rattle.commands.proofs.LineFacts.{whole_of}
use Rattle.commands.proofs.StreamFacts.{unread_of}
use Rattle.commands.proofs.streaming.apply_behind.Goals as goal

pub returns-in-Err : goal.returns-in-Err
returns-in-Err g c = inl (c.in-Err.ensures.unread, refl, refl)

pub returns-in-Ok-asked_of : goal.returns-in-Ok-asked_of
returns-in-Ok-asked_of g c =
    inr (
      c.in-Ok-asked_of.request,
      whole_of _ _ c.in-Ok.body.items (λ t. IsRequestText t c.in-Ok-asked_of.request) c.in-Ok.ensures.bytes
          (subst (λ t. IsRequestText t c.in-Ok-asked_of.request) c.deref.ensures.value c.in-Ok-asked_of.ensures),
      c.answer.ensures,
    )

pub returns : goal.returns
returns g c = inl (unread_of _ _ c.in-Err-asked_of.ensures, refl, refl)
