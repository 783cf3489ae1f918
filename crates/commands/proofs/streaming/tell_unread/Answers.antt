use Rattle.std.proofs.Common.{◌∙◌, inl, inr, refl, sym}
use Rattle.commands.proofs.streaming.tell_unread.Goals as goal

pub returns-then-is_stop : goal.returns-then-is_stop
returns-then-is_stop g c = inr (sym c.is_stop.ensures ∙ c.if-is_stop.true, refl)

pub returns : goal.returns
returns g c = inl c.tell_bad.ensures
