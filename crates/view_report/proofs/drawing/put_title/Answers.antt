use Rattle.std.proofs.lemmas.Int.{to_z-of_z}
use Rattle.std.specs.Prelude.{string_bytes}
use Rattle.view_report.proofs.Texts.{onward}
use Rattle.view_report.proofs.drawing.put_title.Goals as goal

pub returns : goal.returns
returns c =
    onward (string_bytes c.args.text.now) _ _ (simp (to_z-of_z, c.ranges.zoom, c.ranges.column, c.ranges.row) at
    c.in_ok-put_place.ensures) (
    onward (string_bytes c.put_place.new.text) _ _ c.in_ok-put.ensures (
    onward (string_bytes c.put.new.text) _ _ c.in_ok-put_plain_name.ensures (
    onward (string_bytes c.put_plain_name.new.text) _ _ c.in_ok-put_also_named.ensures c.in_ok-put-2.ensures)))
