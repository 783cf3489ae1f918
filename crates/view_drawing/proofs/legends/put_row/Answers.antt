use Rattle.std.specs.Prelude.{string_bytes}
use Rattle.view_report.proofs.Texts.{onward}
use Rattle.view_drawing.specs.Legends.{holder_row}
use Rattle.view_drawing.proofs.legends.put_row.Goals as goal

pub returns : goal.returns
unfolding holder_row
returns c =
    onward (string_bytes c.args.text.now) _ _
    (rw (c.rank_of.ensures, c.deref.ensures.value) at c.in_ok-put_begin.ensures) c.in_ok-put_end.ensures
