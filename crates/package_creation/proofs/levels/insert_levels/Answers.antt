use Rattle.std.proofs.Common.{[], ◌∙◌, ◌≡◌, ◌+◌, ◌≤ℤ◌, ◌+ℤ◌, pos, refl, rules, arith}
use Rattle.std.proofs.Common.{subst, to_z-of_z, unsigned_abs}
use Rattle.std.proofs.Common.{FitsSigned, w64}
use Rattle.sqlite.specs.Held.{state}
use Rattle.matrix_rules.proofs.Frames.{good_frame}
use Rattle.store_sql.specs.Transactions.{Steps}
use Rattle.store_sql.proofs.Transactions.{steps_failed}
use Rattle.package_tables.specs.Changes.{Adds, ListBecomes}
use Rattle.package_tables.specs.Listed.{matrices}
use Rattle.package_tables.specs.Calls.{OnTables}
use Rattle.package_tables.specs.Fixed.{first_levels, level_row}
use Rattle.package_tables.proofs.Written.{matrices_listed}
use Rattle.package_tables.proofs.InTurn.{done, made_by, made_none, made_then}
use Rattle.package_tables.proofs.FixedRows.{level_free, level_comes}
use Rattle.package_creation.proofs.levels.insert_levels.Goals as goal

pub loop-level-init : goal.loop-level-init
loop-level-init g c = record {
  same = refl;
  each = made_none matrices_listed [] [] (state g.S.Store c.args.tx.now.conn.now) refl;
}

pub loop-level-preserved : goal.loop-level-preserved
loop-level-preserved g c =
    let f = c.args.frame.now in
    let k = c.loop-level.level in
    let good = good_frame f c.requires in
    let low : pos 0 ≤ℤ f.first_zoom = good.first_zoom in
    let fits : FitsSigned w64 c.zoom_at.result = search rules in
    let row = subst (λ z. Steps (λ _. OnTables (Adds matrices (level_row f z)))
    (state g.S.Store c.loop-level.tx.conn.now) (state g.S.Store c.insert_level.new.tx.conn.now) done)
    c.zoom_at.ensures.zoom (simp (to_z-of_z, fits) at c.in_ok-insert_level.ensures.steps) in
    record {
      same = c.insert_level.ensures.same_reference ∙ c.loop-level.invariant.same;
      each = made_then matrices_listed [] (first_levels f k) (first_levels f (k + 1)) c.loop-level.invariant.each
          (made_by matrices_listed (level_row f (f.first_zoom +ℤ pos k)) (first_levels f k) (first_levels f (k + 1))
          (level_free f k low) (level_comes f k low) row);
    }

pub returns-clause-steps : goal.returns-clause-steps
returns-clause-steps g c =
    let f = c.args.frame.now in
    let all : c.loop-level.level ≡ unsigned_abs f.levels = omega
    (arith, c.level_count-levels.ensures, c.loop-level-test.false, c.loop-level.auto.level-end) in
    subst (λ n. Steps (λ _. OnTables (ListBecomes matrices [] (first_levels f n)))
    (state g.S.Store c.args.tx.now.conn.now) (state g.S.Store c.loop-level.tx.conn.now) done) all
    c.loop-level.invariant.each

pub returns-in_err-insert_level-clause-steps : goal.returns-in_err-insert_level-clause-steps
returns-in_err-insert_level-clause-steps g c =
    let f = c.args.frame.now in
    let k = c.loop-level.level in
    let good = good_frame f c.requires in
    let low : pos 0 ≤ℤ f.first_zoom = good.first_zoom in
    let fits : FitsSigned w64 c.zoom_at.result = search rules in
    let row = subst (λ z. Steps (λ _. OnTables (Adds matrices (level_row f z)))
    (state g.S.Store c.loop-level.tx.conn.now) (state g.S.Store c.insert_level.new.tx.conn.now)
    c.insert_level.result) c.zoom_at.ensures.zoom (simp (to_z-of_z, fits) at c.insert_level.ensures.steps) in
    steps_failed _ c.from_residual.ensures.0 (made_then matrices_listed [] (first_levels f k) (first_levels f (k + 1))
    c.loop-level.invariant.each (made_by matrices_listed (level_row f (f.first_zoom +ℤ pos k)) (first_levels f k)
    (first_levels f (k + 1)) (level_free f k low) (level_comes f k low) row))
