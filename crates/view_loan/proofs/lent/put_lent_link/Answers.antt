use Rattle.std.specs.Prelude.{string_bytes}
use Rattle.view_report.proofs.Texts.{onward}
use Rattle.view_loan.proofs.lent.put_lent_link.Goals as goal

pub returns : goal.returns
returns c =
    onward (string_bytes c.args.text.now) _ _ c.in_ok-put.ensures (
    onward (string_bytes c.put.new.text) _ _ (rw c.kind_word.ensures at c.in_ok-put-2.ensures) (
    onward (string_bytes c.put-2.new.text) _ _ c.in_ok-put-3.ensures (
    onward (string_bytes c.put-3.new.text) _ _ c.in_ok-put_told_pair.ensures (
    onward (string_bytes c.put_told_pair.new.text) _ _ c.in_ok-put-4.ensures (
    onward (string_bytes c.put-4.new.text) _ _ c.in_ok-put_link_keeper.ensures c.in_ok-put-5.ensures)))))
