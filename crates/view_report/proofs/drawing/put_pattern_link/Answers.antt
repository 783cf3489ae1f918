use Rattle.std.specs.Prelude.{string_bytes}
use Rattle.view_report.proofs.Texts.{onward}
use Rattle.view_report.proofs.drawing.put_pattern_link.Goals as goal

pub returns : goal.returns
returns c =
    onward (string_bytes c.args.text.now) _ _ c.in_ok-put.ensures (
    onward (string_bytes c.put.new.text) _ _ c.in_ok-put_count.ensures (
    onward (string_bytes c.put_count.new.text) _ _ c.in_ok-put-2.ensures (
    onward (string_bytes c.put-2.new.text) _ _ c.in_ok-put_count-2.ensures (
    onward (string_bytes c.put_count-2.new.text) _ _ c.in_ok-put-3.ensures (
    onward (string_bytes c.put-3.new.text) _ _ c.in_ok-put_count-3.ensures (
    onward (string_bytes c.put_count-3.new.text) _ _ c.in_ok-put-4.ensures (
    onward (string_bytes c.put-4.new.text) _ _ (rw c.scale_of.ensures at c.in_ok-put_count-4.ensures)
    c.in_ok-put-5.ensures)))))))
