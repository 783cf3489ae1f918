use Rattle.std.specs.Prelude.{string_bytes}
use Rattle.view_report.proofs.Texts.{onward}
use Rattle.view_report.proofs.holders.put_home.Goals as goal

pub returns : goal.returns
returns c =
    onward (string_bytes c.args.text.now) _ _ c.in_ok-put.ensures (
    onward (string_bytes c.put.new.text) _ _ c.in_ok-put_uuid.ensures (
    onward (string_bytes c.put_uuid.new.text) _ _ c.in_ok-put-2.ensures (
    onward (string_bytes c.put-2.new.text) _ _ c.in_ok-put_full_name.ensures (
    onward (string_bytes c.put_full_name.new.text) _ _ c.in_ok-put-3.ensures (
    onward (string_bytes c.put-3.new.text) _ _ c.in_ok-put_end.ensures (
    onward (string_bytes c.put_end.new.text) _ _ c.in_ok-put-4.ensures (
    onward (string_bytes c.put-4.new.text) _ _ c.in_ok-put_dated.ensures (
    onward (string_bytes c.put_dated.new.text) _ _ c.in_ok-put-5.ensures (
    onward (string_bytes c.put-5.new.text) _ _ c.in_ok-put_sums.ensures c.in_ok-put-6.ensures)))))))))
