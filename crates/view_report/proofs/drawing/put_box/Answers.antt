use Rattle.std.proofs.lemmas.Int.{to_z-of_z}
use Rattle.std.specs.Prelude.{string_bytes}
use Rattle.view_report.proofs.Texts.{onward}
use Rattle.view_report.proofs.drawing.put_box.Goals as goal

pub returns : goal.returns
returns c =
    onward (string_bytes c.args.text.now) _ _ c.in_ok-put.ensures (
    onward (string_bytes c.put.new.text) _ _ c.in_ok-put_class.ensures (
    onward (string_bytes c.put_class.new.text) _ _ c.in_ok-put-2.ensures (
    onward (string_bytes c.put-2.new.text) _ _ (simp (to_z-of_z, c.ranges.column) at
    (rw (c.left_of.ensures, c.layer_of-layer.ensures) at c.in_ok-put_count.ensures)) (
    onward (string_bytes c.put_count.new.text) _ _ c.in_ok-put-3.ensures (
    onward (string_bytes c.put-3.new.text) _ _ (simp (to_z-of_z, c.ranges.row) at
    (rw (c.top_of.ensures, c.layer_of-layer.ensures) at c.in_ok-put_count-2.ensures)) (
    onward (string_bytes c.put_count-2.new.text) _ _ c.in_ok-put-4.ensures (
    onward (string_bytes c.put-4.new.text) _ _ (rw (c.width_of.ensures, c.layer_of-layer.ensures) at
    c.in_ok-put_count-3.ensures) (
    onward (string_bytes c.put_count-3.new.text) _ _ c.in_ok-put-5.ensures (
    onward (string_bytes c.put-5.new.text) _ _ (rw (c.height_of.ensures, c.layer_of-layer.ensures) at
    c.in_ok-put_count-4.ensures) (
    onward (string_bytes c.put_count-4.new.text) _ _ c.in_ok-put-6.ensures (
    onward (string_bytes c.put-6.new.text) _ _ c.in_ok-put_count-5.ensures (
    onward (string_bytes c.put_count-5.new.text) _ _ c.in_ok-put-7.ensures (
    onward (string_bytes c.put-7.new.text) _ _ c.in_ok-put_count-6.ensures c.in_ok-put-8.ensures)))))))))))))
