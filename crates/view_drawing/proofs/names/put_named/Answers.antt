use Rattle.std.specs.Prelude.{string_bytes}
use Rattle.view_report.proofs.Texts.{onward}
use Rattle.view_drawing.specs.Names.{named_text}
use Rattle.view_drawing.proofs.names.put_named.Goals as goal

pub returns : goal.returns
unfolding named_text
returns c =
    onward (string_bytes c.args.text.now) _ _ c.in_ok-put.ensures (
    onward (string_bytes c.put.new.text) _ _ c.in_ok-put_place.ensures (
    onward (string_bytes c.put_place.new.text) _ _ c.in_ok-put-2.ensures (
    onward (string_bytes c.put-2.new.text) _ _ (rw c.as_str.ensures at c.in_ok-put_escaped.ensures)
    c.in_ok-put-3.ensures)))
