use Rattle.view_fault.proofs.Rows.{no_row, row_more}
use Rattle.view_fault.proofs.pages.put_rows.Goals as goal

pub loop-number-init : goal.loop-number-init
loop-number-init c = no_row c.args.found _

pub loop-number-preserved : goal.loop-number-preserved
loop-number-preserved c = row_more c.args.found _ _ _ c.loop-number.number c.loop-number.invariant
    c.in_ok-put_row.ensures
