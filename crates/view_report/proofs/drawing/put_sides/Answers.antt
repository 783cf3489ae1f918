use Rattle.std.specs.Prelude.{string_bytes}
use Rattle.view_report.proofs.Texts.{onward}
use Rattle.view_report.proofs.drawing.put_sides.Goals as goal

pub returns : goal.returns
returns c =
    onward (string_bytes c.args.text.now) _ _ (rw (c.times-2.ensures, c.times.ensures) at c.in_ok-put_count.ensures) (
    onward (string_bytes c.put_count.new.text) _ _ c.in_ok-put.ensures
    (rw (c.times-4.ensures, c.times-3.ensures) at c.in_ok-put_count-2.ensures))
