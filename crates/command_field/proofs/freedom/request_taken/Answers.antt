-- A receipt is kept of it, or none.
use Rattle.std.proofs.Common.{◌∙◌, sym, ap}
use Rattle.std.specs.Prelude.{is_some}
use Rattle.command_field.proofs.Free.{kept_takes}
use Rattle.command_field.proofs.freedom.request_taken.Goals as goal

pub returns-then-is_some-clause-told : goal.returns-then-is_some-clause-told
returns-then-is_some-clause-told g c = λ clean w stands.
    kept_takes w c.args.request.now
    (ap is_some (sym (c.in_ok-receipt.ensures.told clean w stands)) ∙ sym c.is_some.ensures ∙ c.if-is_some.true)

pub returns-clause-told : goal.returns-clause-told
returns-clause-told g c = λ clean w stands.
    ap is_some (sym (c.in_ok-receipt.ensures.told clean w stands)) ∙ sym c.is_some.ensures ∙ c.if-is_some.false
