use Rattle.std.proofs.Common.{◌≡◌, map, take}
use Rattle.store_sql.specs.Forms.{column_of}
use Rattle.store_sql.proofs.forms.are_columns.Given as goal

abbrev pub invariant-loop-i : goal.invariant-loop-i
invariant-loop-i l = take l.i l.columns ≡ map column_of (take l.i l.forms)
