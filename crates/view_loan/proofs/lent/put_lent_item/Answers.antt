use Rattle.std.specs.Prelude.{string_bytes}
use Rattle.view_report.proofs.Texts.{onward}
use Rattle.view_loan.proofs.lent.put_lent_item.Goals as goal

pub returns : goal.returns
returns c =
    onward (string_bytes c.args.text.now) _ _ c.in_ok-put.ensures (
    onward (string_bytes c.put.new.text) _ _ (rw c.kind_word.ensures at c.in_ok-put-2.ensures) (
    onward (string_bytes c.put-2.new.text) _ _ c.in_ok-put_also_told.ensures (
    onward (string_bytes c.put_also_told.new.text) _ _ c.in_ok-put-3.ensures (
    onward (string_bytes c.put-3.new.text) _ _ c.in_ok-put_short.ensures (
    onward (string_bytes c.put_short.new.text) _ _ c.in_ok-put-4.ensures (
    onward (string_bytes c.put-4.new.text) _ _ c.in_ok-put_count.ensures (
    onward (string_bytes c.put_count.new.text) _ _ c.in_ok-put-5.ensures (
    onward (string_bytes c.put-5.new.text) _ _ c.in_ok-put_fingerprint.ensures (
    onward (string_bytes c.put_fingerprint.new.text) _ _ c.in_ok-put-6.ensures (
    onward (string_bytes c.put-6.new.text) _ _ c.in_ok-put_item_keeper.ensures c.in_ok-put-7.ensures))))))))))
