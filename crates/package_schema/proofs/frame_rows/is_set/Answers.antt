use Rattle.std.proofs.Common.{refl, rules, FitsSigned, w64}
use Rattle.package_schema.proofs.Agreeing.{same_number}
use Rattle.package_schema.proofs.frame_rows.is_set.Goals as goal

pub returns : goal.returns
returns c =
    let row_srs_id : FitsSigned w64 c.args.row.now.srs_id = search rules in
    let frame_srs_id : FitsSigned w64 c.args.frame.now.srs_id = search rules in
    let row_min_x : FitsSigned w64 c.args.row.now.min_x = search rules in
    let frame_min_x : FitsSigned w64 c.args.frame.now.min_x = search rules in
    let row_min_y : FitsSigned w64 c.args.row.now.min_y = search rules in
    let frame_min_y : FitsSigned w64 c.args.frame.now.min_y = search rules in
    let row_max_x : FitsSigned w64 c.args.row.now.max_x = search rules in
    let frame_max_x : FitsSigned w64 c.args.frame.now.max_x = search rules in
    let row_max_y : FitsSigned w64 c.args.row.now.max_y = search rules in
    let frame_max_y : FitsSigned w64 c.args.frame.now.max_y = search rules in
    rw (
      c.is_text.ensures,
      same_number c.args.row.now.srs_id c.args.frame.now.srs_id row_srs_id frame_srs_id,
      same_number c.args.row.now.min_x c.args.frame.now.min_x row_min_x frame_min_x,
      same_number
          c.args.row.now.min_y c.args.frame.now.min_y row_min_y frame_min_y,
      same_number c.args.row.now.max_x
          c.args.frame.now.max_x row_max_x frame_max_x,
      same_number c.args.row.now.max_y c.args.frame.now.max_y
          row_max_y frame_max_y,
    ) refl
