use Rattle.std.proofs.Common.{refl, rules, FitsSigned, w64}
use Rattle.package_schema.proofs.Agreeing.{same_number}
use Rattle.package_schema.proofs.fixed_rows.is_relation.Goals as goal

pub returns : goal.returns
returns c =
    let number = c.ranges.number in
    let row_number : FitsSigned w64 c.args.row.now.id = search rules in
    rw (
      same_number c.args.row.now.id c.args.number row_number number,
      c.is_text.ensures,
      c.is_text-2.ensures,
      c.is_text-3.ensures,
      c.is_text-4.ensures,
      c.is_text-5.ensures,
      c.is_text-6.ensures,
    ) refl
