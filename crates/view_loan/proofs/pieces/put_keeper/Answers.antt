use Rattle.std.specs.Prelude.{string_bytes}
use Rattle.view_report.proofs.Texts.{onward}
use Rattle.view_loan.proofs.pieces.put_keeper.Goals as goal

pub returns : goal.returns
returns c =
    onward (string_bytes c.args.text.now) _ _ c.in_ok-put.ensures (
    onward (string_bytes c.put.new.text) _ _ c.in_ok-put_holder_class.ensures (
    onward (string_bytes c.put_holder_class.new.text) _ _ c.in_ok-put-2.ensures (
    onward (string_bytes c.put-2.new.text) _ _ c.in_ok-put_name.ensures c.in_ok-put-3.ensures)))
