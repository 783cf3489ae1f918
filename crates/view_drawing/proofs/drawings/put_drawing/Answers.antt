use Rattle.std.specs.Prelude.{string_bytes}
use Rattle.view_report.proofs.Texts.{onward}
use Rattle.view_drawing.proofs.drawings.put_drawing.Goals as goal

pub returns : goal.returns
returns c =
    onward (string_bytes c.args.text.now) _ _
    (rw (c.whole_height.ensures, c.package_count.ensures, c.map_height-height.ensures, c.finest_of.ensures)
    at c.in_ok-put_head.ensures) (
    onward (string_bytes c.put_head.new.text) _ _ c.in_ok-put_defs.ensures (
    onward (string_bytes c.put_defs.new.text) _ _
    (rw (c.level_total-total.ensures, c.map_height-height.ensures, c.finest_of.ensures)
    at c.in_ok-put_map.ensures)
    (rw (c.map_height-height.ensures, c.finest_of.ensures) at c.in_ok-put_legend.ensures)))
