use Rattle.std.specs.Prelude.{string_bytes}
use Rattle.view_report.proofs.Texts.{onward}
use Rattle.view_loan.proofs.pieces.put_told_pair.Goals as goal

pub returns : goal.returns
returns c =
    onward (string_bytes c.args.text.now) _ _ c.in_ok-put_told.ensures (
    onward (string_bytes c.put_told.new.text) _ _ c.in_ok-put.ensures c.in_ok-put_told-2.ensures)
