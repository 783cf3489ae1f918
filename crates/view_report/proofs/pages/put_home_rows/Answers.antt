use Rattle.std.specs.Prelude.{string_bytes}
use Rattle.view_report.proofs.Texts.{onward}
use Rattle.view_report.proofs.pages.put_home_rows.Goals as goal

pub returns : goal.returns
returns c =
    onward (string_bytes c.args.text.now) _ _ c.in_ok-put.ensures (
    onward (string_bytes c.put.new.text) _ _ (rw c.deref.ensures.value at c.in_ok-put_homes.ensures)
    c.in_ok-put-2.ensures)
