use Rattle.std.specs.Prelude.{string_bytes}
use Rattle.view_report.proofs.Texts.{onward}
use Rattle.view_drawing.proofs.drawings.put_head.Goals as goal

pub returns : goal.returns
returns c =
    onward (string_bytes c.args.text.now) _ _ c.in_ok-put.ensures (
    onward (string_bytes c.put.new.text) _ _ c.in_ok-put_count.ensures (
    onward (string_bytes c.put_count.new.text) _ _ c.in_ok-put-2.ensures (
    onward (string_bytes c.put-2.new.text) _ _ c.in_ok-put_count-2.ensures (
    onward (string_bytes c.put_count-2.new.text) _ _ c.in_ok-put-3.ensures (
    onward (string_bytes c.put-3.new.text) _ _ c.in_ok-put_plain_name.ensures (
    onward (string_bytes c.put_plain_name.new.text) _ _ c.in_ok-put-4.ensures
    (rw c.receipt_count.ensures at c.in_ok-put_count-3.ensures)))))))
