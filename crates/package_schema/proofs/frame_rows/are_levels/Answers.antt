-- Each level is compared with the row at its place, and there are as many of both.
use Rattle.std.proofs.Common.{◌≡◌, ◌∙◌, length, sym, ap, rules, arith, FitsSigned, w64, to_z-of_z}
use Rattle.std.proofs.lemmas.Bool.{false≢true}
use Rattle.package_schema.proofs.Levelling.{one_more, all_levels, levels_long}
use Rattle.package_schema.proofs.frame_rows.are_levels.Goals as goal

pub returns-then-rows-level_count : goal.returns-then-rows-level_count
returns-then-rows-level_count c = (
  λ yes. absurd (false≢true yes),
  λ e. absurd
      (c.if-rows-level_count.true (ap length e ∙ levels_long c.args.frame.now ∙ sym c.level_count.ensures)),
)

pub loop-at-preserved : goal.loop-at-preserved
loop-at-preserved c =
    let zoom : FitsSigned w64 c.zoom_at.result = search rules in
    one_more c.args.frame.now c.args.rows.now c.loop-at.at c.index-rows-at.result c.zoom_at.result c.loop-at.are
    c.is_level-are.result c.loop-at-test.true c.index-rows-at.is c.zoom_at.ensures.zoom
    (simp (to_z-of_z, zoom) at c.is_level-are.ensures) c.loop-at.invariant

pub returns : goal.returns
returns c =
    let whole : c.loop-at.at ≡ length c.args.rows.now = omega (arith, c.loop-at-test.false, c.loop-at.auto.at-end) in
    all_levels c.args.frame.now c.args.rows.now c.loop-at.at c.loop-at.are whole
    (c.if-rows-level_count.false ∙ c.level_count.ensures) c.loop-at.invariant
