use Rattle.std.proofs.Common.{append_assoc}
use Rattle.view_report.proofs.holders.put_dated.Goals as goal

pub returns : goal.returns
returns c = rw (c.in_ok-put_receipt.ensures, c.in_ok-put.ensures, c.in_ok-put_moment.ensures, c.as_str.ensures)
    (simp append_assoc)
