use Rattle.std.specs.Prelude.{string_bytes}
use Rattle.view_report.proofs.Texts.{onward}
use Rattle.view_report.proofs.holdings.put_holding.Goals as goal

pub returns : goal.returns
returns c =
    onward (string_bytes c.args.text.now) _ _ c.in_ok-put.ensures (
    onward (string_bytes c.put.new.text) _ _ c.in_ok-put_uuid.ensures (
    onward (string_bytes c.put_uuid.new.text) _ _ c.in_ok-put-2.ensures (
    onward (string_bytes c.put-2.new.text) _ _ c.in_ok-put_swatch.ensures (
    onward (string_bytes c.put_swatch.new.text) _ _ c.in_ok-put-3.ensures (
    onward (string_bytes c.put-3.new.text) _ _ c.in_ok-put_name.ensures (
    onward (string_bytes c.put_name.new.text) _ _ c.in_ok-put-4.ensures (
    onward (string_bytes c.put-4.new.text) _ _ c.in_ok-put_sums.ensures (
    onward (string_bytes c.put_sums.new.text) _ _ c.in_ok-put-5.ensures (
    onward (string_bytes c.put-5.new.text) _ _ (rw c.as_slice.ensures at c.in_ok-put_items.ensures) (
    onward (string_bytes c.put_items.new.text) _ _ (rw c.deref.ensures.value at c.in_ok-put_ties.ensures)
    c.in_ok-put-6.ensures))))))))))
