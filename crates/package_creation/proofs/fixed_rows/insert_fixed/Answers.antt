use Rattle.std.proofs.Common.{[], ◌∷◌, refl, rules, to_z-of_z, FitsSigned, w64, List, ℕ}
use Rattle.sqlite.specs.State.{State}
use Rattle.store_sql.specs.Transactions.{Steps}
use Rattle.store_sql.proofs.Transactions.{steps_failed}
use Rattle.sheet_types.specs.declared.frame.Frame.{Frame}
use Rattle.package_tables.specs.Listed.{contents, matrices, matrix_sets, relations, systems}
use Rattle.package_tables.specs.Package.{Tables}
use Rattle.package_tables.specs.Calls.{OnTables}
use Rattle.package_tables.specs.Fixed.{systems_of, contents_of, matrix_set, levels_of, mapping_relations}
use Rattle.package_tables.specs.Changes.{ListBecomes}
use Rattle.package_tables.specs.Creation.{no_rows, fixed_tables, TablesBecome}
use Rattle.package_tables.proofs.InTurn.{Done, done, becomes_first, becomes_then}
use Rattle.package_creation.proofs.fixed_rows.insert_fixed.Goals as goal

module _ (f : Frame) (at : List ℕ) where
  abbrev t1 : Tables
  t1 = record no_rows { spatial_ref_sys = systems_of f.srs_id }

  abbrev t2 : Tables
  t2 = record t1 { contents = contents_of f at }

  abbrev t3 : Tables
  t3 = record t2 { tile_matrix_set = matrix_set f ∷ [] }

  abbrev t4 : Tables
  t4 = record t3 { tile_matrix = levels_of f }

  one : {old new : State} {r : Done} → Steps (λ _. OnTables (ListBecomes systems [] (systems_of f.srs_id))) old new r
      → Steps (λ _. OnTables (TablesBecome no_rows t1)) old new r
  one h = becomes_first systems no_rows (systems_of f.srs_id) refl h

  two : {old mid new : State} {r : Done} → Steps (λ _. OnTables (TablesBecome no_rows t1)) old mid done
      → Steps (λ _. OnTables (ListBecomes contents [] (contents_of f at))) mid new r
      → Steps (λ _. OnTables (TablesBecome no_rows t2)) old new r
  two first next = becomes_then contents no_rows t1 (contents_of f at) refl first next

  three : {old mid new : State} {r : Done} → Steps (λ _. OnTables (TablesBecome no_rows t2)) old mid done
      → Steps (λ _. OnTables (ListBecomes matrix_sets [] (matrix_set f ∷ []))) mid new r
      → Steps (λ _. OnTables (TablesBecome no_rows t3)) old new r
  three first next = becomes_then matrix_sets no_rows t2 (matrix_set f ∷ []) refl first next

  four : {old mid new : State} {r : Done} → Steps (λ _. OnTables (TablesBecome no_rows t3)) old mid done
      → Steps (λ _. OnTables (ListBecomes matrices [] (levels_of f))) mid new r
      → Steps (λ _. OnTables (TablesBecome no_rows t4)) old new r
  four first next = becomes_then matrices no_rows t3 (levels_of f) refl first next

  five : {old mid new : State} {r : Done} → Steps (λ _. OnTables (TablesBecome no_rows t4)) old mid done
      → Steps (λ _. OnTables (ListBecomes relations [] mapping_relations)) mid new r
      → Steps (λ _. OnTables (TablesBecome no_rows (fixed_tables f at))) old new r
  five first next = becomes_then relations no_rows t4 mapping_relations refl first next

pub returns-clause-steps : goal.returns-clause-steps
returns-clause-steps g c =
    let f = c.args.frame.now in
    let at = c.args.at.now in
    let srs_id : FitsSigned w64 f.srs_id = search rules in
    five f at (four f at (three f at (two f at (one f at (simp (to_z-of_z, srs_id) at
    c.in_ok-insert_systems.ensures.steps)) c.in_ok-insert_all_contents.ensures.steps)
    c.in_ok-insert_matrix_set.ensures.steps) c.in_ok-insert_levels.ensures.steps) c.insert_relations.ensures.steps

pub returns-in_err-insert_systems-clause-steps : goal.returns-in_err-insert_systems-clause-steps
returns-in_err-insert_systems-clause-steps g c = steps_failed _ c.from_residual.ensures.0 c.insert_systems.ensures.steps

pub returns-in_err-insert_all_contents-clause-steps : goal.returns-in_err-insert_all_contents-clause-steps
returns-in_err-insert_all_contents-clause-steps g c =
    let f = c.args.frame.now in
    let at = c.args.at.now in
    let srs_id : FitsSigned w64 f.srs_id = search rules in
    steps_failed _ c.from_residual-in_err-insert_all_contents.ensures.0
    (two f at (one f at (simp (to_z-of_z, srs_id) at c.in_ok-insert_systems.ensures.steps))
    c.insert_all_contents.ensures.steps)

pub returns-in_err-insert_matrix_set-clause-steps : goal.returns-in_err-insert_matrix_set-clause-steps
returns-in_err-insert_matrix_set-clause-steps g c =
    let f = c.args.frame.now in
    let at = c.args.at.now in
    let srs_id : FitsSigned w64 f.srs_id = search rules in
    steps_failed _ c.from_residual-in_err-insert_matrix_set.ensures.0
    (three f at (two f at (one f at (simp (to_z-of_z, srs_id) at c.in_ok-insert_systems.ensures.steps))
    c.in_ok-insert_all_contents.ensures.steps) c.insert_matrix_set.ensures.steps)

pub returns-in_err-insert_levels-clause-steps : goal.returns-in_err-insert_levels-clause-steps
returns-in_err-insert_levels-clause-steps g c =
    let f = c.args.frame.now in
    let at = c.args.at.now in
    let srs_id : FitsSigned w64 f.srs_id = search rules in
    steps_failed _ c.from_residual-in_err-insert_levels.ensures.0
    (four f at (three f at (two f at (one f at (simp (to_z-of_z, srs_id) at c.in_ok-insert_systems.ensures.steps))
    c.in_ok-insert_all_contents.ensures.steps) c.in_ok-insert_matrix_set.ensures.steps)
    c.insert_levels.ensures.steps)
