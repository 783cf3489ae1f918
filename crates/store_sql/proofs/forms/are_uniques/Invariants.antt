use Rattle.std.proofs.Common.{◌≡◌, map, take}
use Rattle.store_sql.proofs.forms.are_uniques.Given as goal

abbrev pub invariant-loop-i : goal.invariant-loop-i
invariant-loop-i l = take l.i l.uniques ≡ map (λ u. u.now) (take l.i l.forms)
