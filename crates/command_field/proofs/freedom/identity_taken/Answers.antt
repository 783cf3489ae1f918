-- What is told of the identity that is added is told of the request.
use Rattle.std.proofs.Common.{◌∙◌, sym, ap}
use Rattle.sheet_types.specs.Refuse.{identity_used}
use Rattle.command_field.proofs.Free.{used_takes}
use Rattle.command_field.proofs.freedom.identity_taken.Goals as goal

pub returns-then-branch-clause-told : goal.returns-then-branch-clause-told
returns-then-branch-clause-told g c = λ clean w stands.
    used_takes w c.args.request.now _ _ _ c.in-Add.is
    (sym (c.in_ok-is_used.ensures.told clean w stands) ∙ c.if-branch.true)

pub returns-clause-told : goal.returns-clause-told
returns-clause-told g c = λ clean w stands.
    ap (identity_used w) c.in-Add.is ∙ sym (c.in_ok-is_used.ensures.told clean w stands) ∙ c.if-branch.false
