use Rattle.std.proofs.lemmas.Int.{to_z-of_z}
use Rattle.std.specs.Prelude.{string_bytes}
use Rattle.view_report.proofs.Texts.{onward}
use Rattle.view_report.proofs.drawing.put_sheet_of.Goals as goal

pub returns : goal.returns
returns c =
    onward (string_bytes c.args.text.now) _ _ c.in_ok-put_link.ensures (
    onward (string_bytes c.put_link.new.text) _ _
    (simp (to_z-of_z, c.ranges.column, c.ranges.row) at c.in_ok-put_box.ensures)
    (simp (to_z-of_z, c.ranges.zoom, c.ranges.column, c.ranges.row) at c.in_ok-put_title.ensures))
