use Rattle.std.proofs.Common.{refl, rules, FitsSigned, w64}
use Rattle.package_schema.proofs.Agreeing.{same_number}
use Rattle.package_schema.proofs.fixed_rows.is_system.Goals as goal

pub returns : goal.returns
returns c =
    let number = c.ranges.number in
    let row_number : FitsSigned w64 c.args.row.now.srs_id = search rules in
    let row_other : FitsSigned w64 c.args.row.now.organization_coordsys_id = search rules in
    rw (
      c.is_text.ensures,
      c.is_text-2.ensures,
      c.is_text-3.ensures,
      c.is_text-4.ensures,
      same_number
          c.args.row.now.srs_id c.args.number row_number number,
      same_number c.args.row.now.organization_coordsys_id
          c.args.number row_other number,
    ) refl
