-- Room was wanting, and nothing was done; or the request was carried out, and its row written.
use Rattle.std.proofs.Common.{◌∙◌, inl, inr, refl}
use Rattle.command_desk.proofs.Printed.{printed_as}
use Rattle.command_desk.proofs.carrying.carry_row.Goals as goal

pub returns-in_default : goal.returns-in_default
returns-in_default g c = inl (refl, refl, refl)

pub returns : goal.returns
returns g c = inr (record {
  reply = c.apply-reply.result;
  step = c.apply-reply.ensures.step;
  still = c.apply-reply.ensures.still;
  unharmed = c.apply-reply.ensures.unharmed;
  told =
      printed_as c.as_str.result.now _ c.row_ending.result _ (g.W.Write.contents c.args.writer.now)
      (g.W.Write.contents c.print.new.writer) c.print.result
      (c.as_str.ensures.value ∙ c.put_line.ensures.text) c.row_ending.ensures c.print.ensures;
})
