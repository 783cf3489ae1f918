use Rattle.std.specs.Prelude.{string_bytes}
use Rattle.view_report.proofs.Texts.{onward}
use Rattle.view_loan.proofs.receipts.put_row.Goals as goal

pub returns : goal.returns
returns c =
    onward (string_bytes c.args.text.now) _ _ c.in_ok-put.ensures (
    onward (string_bytes c.put.new.text) _ _ c.in_ok-put_count.ensures (
    onward (string_bytes c.put_count.new.text) _ _ c.in_ok-put-2.ensures (
    onward (string_bytes c.put-2.new.text) _ _ c.in_ok-put_count-2.ensures (
    onward (string_bytes c.put_count-2.new.text) _ _ c.in_ok-put-3.ensures (
    onward (string_bytes c.put-3.new.text) _ _ (rw c.as_str.ensures at c.in_ok-put_moment.ensures) (
    onward (string_bytes c.put_moment.new.text) _ _ c.in_ok-put-4.ensures (
    onward (string_bytes c.put-4.new.text) _ _ (rw c.command_of.ensures at c.in_ok-put_escaped.ensures) (
    onward (string_bytes c.put_escaped.new.text) _ _ c.in_ok-put-5.ensures (
    onward (string_bytes c.put-5.new.text) _ _ c.in_ok-put_what.ensures (
    onward (string_bytes c.put_what.new.text) _ _ c.in_ok-put-6.ensures (
    onward (string_bytes c.put-6.new.text) _ _ c.in_ok-put_keeper_or.ensures (
    onward (string_bytes c.put_keeper_or.new.text) _ _ c.in_ok-put-7.ensures (
    onward (string_bytes c.put-7.new.text) _ _ c.in_ok-put_keeper_or-2.ensures (
    onward (string_bytes c.put_keeper_or-2.new.text) _ _ c.in_ok-put-8.ensures (
    onward (string_bytes c.put-8.new.text) _ _ c.in_ok-put_count-3.ensures (
    onward (string_bytes c.put_count-3.new.text) _ _ c.in_ok-put-9.ensures (
    onward (string_bytes c.put-9.new.text) _ _ c.in_ok-put_short.ensures c.in_ok-put-10.ensures)))))))))))))))))
