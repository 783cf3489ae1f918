use Rattle.std.proofs.Common.{◌≡◌, take}
use Rattle.store_sql.proofs.forms.are_orders.Given as goal

abbrev pub invariant-loop-i : goal.invariant-loop-i
invariant-loop-i l = take l.i l.orders ≡ take l.i l.forms
