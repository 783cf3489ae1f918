use Rattle.std.proofs.Common.{[], ◌∷◌, refl, rules, to_z-of_z, FitsSigned, w64}
use Rattle.package_tables.specs.Fixed.{matrix_set}
use Rattle.package_tables.proofs.Written.{matrix_sets_listed}
use Rattle.package_tables.proofs.InTurn.{entered_by}
use Rattle.package_creation.proofs.fixed_rows.insert_matrix_set.Goals as goal

pub returns-clause-steps : goal.returns-clause-steps
returns-clause-steps g c =
    let a = c.args in
    let srs_id : FitsSigned w64 a.frame.now.srs_id = search rules in
    let min_x : FitsSigned w64 a.frame.now.min_x = search rules in
    let min_y : FitsSigned w64 a.frame.now.min_y = search rules in
    let max_x : FitsSigned w64 a.frame.now.max_x = search rules in
    let max_y : FitsSigned w64 a.frame.now.max_y = search rules in
    entered_by matrix_sets_listed (matrix_set a.frame.now) [] (matrix_set a.frame.now ∷ []) refl refl
    (simp (to_z-of_z, srs_id, min_x, min_y, max_x, max_y) at c.insert_tile_matrix_set.ensures.wrote)
    c.insert_tile_matrix_set.ensures.survives
