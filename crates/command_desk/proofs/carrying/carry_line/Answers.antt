-- The request was carried out, and what came of it was written, if there was memory for it.
use Rattle.std.proofs.Common.{◌∙◌, ◌∷◌, [], ap, inl, inr, refl}
use Rattle.command_lines.specs.Drops.{outcomes_text}
use Rattle.command_desk.proofs.Printed.{printed_as}
use Rattle.command_desk.proofs.carrying.carry_line.Goals as goal

pub returns-in-Ok : goal.returns-in-Ok
returns-in-Ok g c = record {
  reply = c.apply-reply.result;
  step = c.apply-reply.ensures.step;
  still = c.apply-reply.ensures.still;
  unharmed = c.apply-reply.ensures.unharmed;
  told = inl (
      printed_as c.as_str.result.now (outcomes_text (c.args.request ∷ []) (c.apply-reply.result ∷ []))
      c.line_ending-due.result _ (g.W.Write.contents c.args.writer.now) (g.W.Write.contents c.print.new.writer)
      c.print.result
      (c.as_str.ensures.value ∙ (c.in-Ok.ensures
      ∙ (ap (λ qs. outcomes_text qs c.as_slice-2.result.now) c.as_slice.ensures
      ∙ ap (outcomes_text (c.args.request ∷ [])) c.as_slice-2.ensures)))
      c.line_ending-due.ensures c.print.ensures);
}

pub returns : goal.returns
returns g c = record {
  reply = c.apply-reply.result;
  step = c.apply-reply.ensures.step;
  still = c.apply-reply.ensures.still;
  unharmed = c.apply-reply.ensures.unharmed;
  told = inr (refl, refl);
}
