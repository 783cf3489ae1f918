use Rattle.std.proofs.Common.{[], ◌∷◌, ℕ, refl, codes, List}
use Rattle.store_sql.proofs.Transactions.{steps_failed}
use Rattle.sheet_types.specs.declared.frame.Frame.{Frame}
use Rattle.package_tables.specs.Fixed.{content, contents_of}
use Rattle.package_tables.specs.declared.rows.ContentsRow.{ContentsRow}
use Rattle.package_tables.proofs.Written.{contents_listed}
use Rattle.package_tables.proofs.InTurn.{made_by, made_then}
use Rattle.package_creation.proofs.fixed_rows.insert_all_contents.Goals as goal

abbrev tiles : Frame → List ℕ → ContentsRow
tiles f at = content (codes "sheet_tiles") (codes "tiles") f at

abbrev rows : Frame → List ℕ → ContentsRow
rows f at = content (codes "sheet_rows") (codes "attributes") f at

abbrev media : Frame → List ℕ → ContentsRow
media f at = content (codes "sheet_media") (codes "attributes") f at

pub returns-clause-steps : goal.returns-clause-steps
returns-clause-steps g c =
    let f = c.args.frame.now in
    let at = c.args.at.now in
    made_then contents_listed [] (rows f at ∷ tiles f at ∷ []) (contents_of f at)
    (made_then contents_listed [] (tiles f at ∷ []) (rows f at ∷ tiles f at ∷ [])
    (made_by contents_listed (tiles f at) [] (tiles f at ∷ []) refl refl c.in_ok-insert_content.ensures.steps)
    (made_by contents_listed (rows f at) (tiles f at ∷ []) (rows f at ∷ tiles f at ∷ []) refl refl
    c.in_ok-insert_content-2.ensures.steps))
    (made_by contents_listed (media f at) (rows f at ∷ tiles f at ∷ []) (contents_of f at) refl refl
    c.insert_content-3.ensures.steps)

pub returns-in_err-insert_content-clause-steps : goal.returns-in_err-insert_content-clause-steps
returns-in_err-insert_content-clause-steps g c = steps_failed _ c.from_residual.ensures.0 c.insert_content.ensures.steps

pub returns-in_err-insert_content-2-clause-steps : goal.returns-in_err-insert_content-2-clause-steps
returns-in_err-insert_content-2-clause-steps g c =
    let f = c.args.frame.now in
    let at = c.args.at.now in
    steps_failed _ c.from_residual-in_err-insert_content-2.ensures.0
    (made_then contents_listed [] (tiles f at ∷ []) (rows f at ∷ tiles f at ∷ [])
    (made_by contents_listed (tiles f at) [] (tiles f at ∷ []) refl refl c.in_ok-insert_content.ensures.steps)
    (made_by contents_listed (rows f at) (tiles f at ∷ []) (rows f at ∷ tiles f at ∷ []) refl refl
    c.insert_content-2.ensures.steps))
