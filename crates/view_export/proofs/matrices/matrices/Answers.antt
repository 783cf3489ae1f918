use Rattle.std.proofs.Common.{◌≡◌, ◌∙◌, FitsSigned, ap, arith, rules, to_z-of_z, w64}
use Rattle.view_export.specs.FixedRows.{matrices, matrix}
use Rattle.view_export.proofs.Texts.{level_more}
use Rattle.view_export.proofs.matrices.matrices.Goals as goal

pub loop-level-preserved : goal.loop-level-preserved
loop-level-preserved c =
    let fits : FitsSigned w64 c.zoom_at.result = search rules in
    let row : c.as_str.result.now ≡ matrix c.args.frame.now c.zoom_at.result =
    c.as_str.ensures.value ∙ (simp (to_z-of_z, fits) at c.in_ok-row.ensures) in
    level_more c.args.frame.now c.loop-level.level _ _ _ c.zoom_at.result c.loop-level.invariant
    c.in_ok-push_str.ensures.bytes row c.zoom_at.ensures.zoom

pub returns : goal.returns
returns c =
    let all : c.loop-level.level ≡ c.level_count-level-end.result = omega arith in
    c.loop-level.invariant ∙ ap (matrices c.args.frame.now) (all ∙ c.level_count-level-end.ensures)
