use Rattle.std.proofs.Common.{◌≡◌, ◌∙◌, length, pos, Some, sym, ap, rules, arith, FitsSigned, w64, to_z}
use Rattle.std.proofs.Common.{to_z-of_z}
use Rattle.std.specs.Cmp.{unsigned_Decides}
use Rattle.package_schema.proofs.Levelling.{candidate_is, counted, level_numbers}
use Rattle.package_schema.proofs.frame_rows.candidate.Goals.{then-sets-ne1-via-then-sets-ne1}
use Rattle.package_schema.proofs.frame_rows.candidate.Goals.{then-sets-ne1-via-else-sets-ne1+then-is_empty}
use Rattle.package_schema.proofs.frame_rows.candidate.Goals.{then-sets-ne1-via-else-sets-ne1+else-is_empty+then-levels-gt-MOST_LEVELS}
use Rattle.package_schema.proofs.frame_rows.candidate.Goals as goal

-- it has not one set, or not as many levels as a frame may have
pub returns-then-sets-ne1 : goal.returns-then-sets-ne1
returns-then-sets-ne1 c = elim c.then-sets-ne1.branch [
  | then-sets-ne1-via-then-sets-ne1 w ↦ λ f good one all. absurd (w.if-sets-ne1.true (ap length one))
  | then-sets-ne1-via-else-sets-ne1+then-is_empty w ↦ λ f good one all.
      let none : length c.args.levels.now ≡ 0 = (unsigned_Decides (length c.args.levels.now) 0).0
      (sym w.is_empty.ensures ∙ w.if-is_empty.true) in
      absurd (omega (arith, (level_numbers f good c.args.levels.now all).0, none))
  | then-sets-ne1-via-else-sets-ne1+else-is_empty+then-levels-gt-MOST_LEVELS w
      ↦ λ f good one all. absurd (omega (
        arith,
        (level_numbers f good c.args.levels.now all).1,
        w.if-levels-gt-MOST_LEVELS.true,
      ))
]

pub returns : goal.returns
returns c =
    let s = c.index-sets-0.result in
    let m = c.index-levels-0.result in
    let srs_id : FitsSigned w64 s.srs_id = search rules in
    let min_x : FitsSigned w64 s.min_x = search rules in
    let min_y : FitsSigned w64 s.min_y = search rules in
    let max_x : FitsSigned w64 s.max_x = search rules in
    let max_y : FitsSigned w64 s.max_y = search rules in
    let tile_width : FitsSigned w64 m.tile_width = search rules in
    let tile_height : FitsSigned w64 m.tile_height = search rules in
    let zoom_level : FitsSigned w64 m.zoom_level = search rules in
    let matrix_width : FitsSigned w64 m.matrix_width = search rules in
    let matrix_height : FitsSigned w64 m.matrix_height = search rules in
    let count : to_z w64 (length c.args.levels.now) ≡ pos (length c.args.levels.now) =
    counted (length c.args.levels.now) c.if-levels-gt-MOST_LEVELS.false in
    λ f good one all.
    let is = candidate_is f good c.args.sets.now c.args.levels.now s m one all c.index-sets-0.is c.index-levels-0.is in
    simp (
      to_z-of_z,
      srs_id,
      min_x,
      min_y,
      max_x,
      max_y,
      tile_width,
      tile_height,
      zoom_level,
      matrix_width,
      matrix_height,
    ) (rw count (ap Some is))
