use Rattle.std.specs.Prelude.{string_bytes}
use Rattle.view_report.proofs.Texts.{onward}
use Rattle.view_loan.proofs.pages.put_own_account.Goals as goal

pub returns : goal.returns
returns c =
    onward (string_bytes c.args.text.now) _ _ c.in_ok-put.ensures (
    onward (string_bytes c.put.new.text) _ _ (rw (
      c.flow_of-flow.ensures,
      c.in_ok-flows.ensures.flow _,
      c.deref.ensures.value,
    ) at c.in_ok-put_account.ensures) c.in_ok-put-2.ensures)
