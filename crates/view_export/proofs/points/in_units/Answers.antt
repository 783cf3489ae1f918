use Rattle.std.proofs.Common.{◌≡◌, negsuc, pos, rules, subst, sym}
use Rattle.std.specs.Prelude.{int_lt, unsigned_abs}
use Rattle.std.specs.Float.{NotNan, binary64}
use Rattle.view_export.specs.Points.{in_units}
use Rattle.view_export.proofs.Doubles.{not_nan}
use Rattle.view_export.proofs.points.in_units.Goals as goal

pub returns-clause-number : goal.returns-clause-number
returns-clause-number c =
    let x = c.args.thousandths in
    let is : c.from_parts.result ≡ in_units x = search rules in
    subst NotNan (sym is) (not_nan binary64 (int_lt x (pos 0)) (unsigned_abs x) (negsuc 2))
