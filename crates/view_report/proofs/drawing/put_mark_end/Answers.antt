use Rattle.std.proofs.lemmas.Int.{to_z-of_z}
use Rattle.std.specs.Prelude.{string_bytes}
use Rattle.view_report.proofs.Texts.{onward}
use Rattle.view_report.proofs.drawing.put_mark_end.Goals as goal

pub returns : goal.returns
returns c =
    onward (string_bytes c.args.text.now) _ _ c.in_ok-put.ensures (
    onward (string_bytes c.put.new.text) _ _ (simp (to_z-of_z, c.ranges.code) at c.in_ok-put_signed.ensures) (
    onward (string_bytes c.put_signed.new.text) _ _ c.in_ok-put-2.ensures (
    onward (string_bytes c.put-2.new.text) _ _ c.in_ok-put_plain_name.ensures (
    onward (string_bytes c.put_plain_name.new.text) _ _ c.in_ok-put-3.ensures (
    onward (string_bytes c.put-3.new.text) _ _ c.in_ok-put_escaped.ensures (
    onward (string_bytes c.put_escaped.new.text) _ _ c.in_ok-put-4.ensures (
    onward (string_bytes c.put-4.new.text) _ _ (rw c.pattern_of.ensures at c.in_ok-put_count.ensures)
    c.in_ok-put-5.ensures)))))))
