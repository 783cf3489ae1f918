use Rattle.std.specs.Prelude.{string_bytes}
use Rattle.view_report.proofs.Texts.{onward}
use Rattle.view_report.specs.Drawing.{named_text}
use Rattle.view_report.proofs.drawing.put_named.Goals as goal

pub returns : goal.returns
unfolding named_text
returns c =
    onward (string_bytes c.args.text.now) _ _ c.in_ok-put.ensures (
    onward (string_bytes c.put.new.text) _ _ c.in_ok-put_style.ensures (
    onward (string_bytes c.put_style.new.text) _ _ c.in_ok-put-2.ensures (
    onward (string_bytes c.put-2.new.text) _ _ (rw c.as_str.ensures at c.in_ok-put_escaped.ensures)
    c.in_ok-put-3.ensures)))
