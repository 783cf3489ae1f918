use Rattle.std.specs.Prelude.{string_bytes}
use Rattle.view_report.proofs.Texts.{onward}
use Rattle.view_drawing.proofs.legends.put_end.Goals as goal

pub returns : goal.returns
returns c =
    onward (string_bytes c.args.text.now) _ _ c.in_ok-put_plain_name.ensures (
    onward (string_bytes c.put_plain_name.new.text) _ _ c.in_ok-put_amounts.ensures c.in_ok-put.ensures)
