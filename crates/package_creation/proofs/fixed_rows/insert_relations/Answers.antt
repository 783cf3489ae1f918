use Rattle.std.proofs.Common.{[], ◌∷◌, pos, refl, codes}
use Rattle.store_sql.proofs.Transactions.{steps_failed}
use Rattle.package_tables.specs.Fixed.{relation, mapping_relations}
use Rattle.package_tables.specs.declared.rows.RelationRow.{RelationRow}
use Rattle.package_tables.proofs.Written.{relations_listed}
use Rattle.package_tables.proofs.InTurn.{made_by, made_then}
use Rattle.package_creation.proofs.fixed_rows.insert_relations.Goals as goal

abbrev first : RelationRow
first = relation (pos 1) (codes "sheet_tiles") (codes "sheet_media") (codes "media") (codes "tiles_media")

abbrev second : RelationRow
second = relation (pos 2) (codes "sheet_rows") (codes "sheet_media") (codes "media") (codes "rows_media")

abbrev third : RelationRow
third = relation (pos 3) (codes "sheet_rows") (codes "sheet_tiles") (codes "tiles") (codes "rows_tiles")

pub returns-clause-steps : goal.returns-clause-steps
returns-clause-steps g c =
    made_then relations_listed [] (first ∷ second ∷ []) mapping_relations
    (made_then relations_listed [] (first ∷ []) (first ∷ second ∷ [])
    (made_by relations_listed first [] (first ∷ []) refl refl c.in_ok-insert_mapping.ensures.steps)
    (made_by relations_listed second (first ∷ []) (first ∷ second ∷ []) refl refl
    c.in_ok-insert_mapping-2.ensures.steps))
    (made_by relations_listed third (first ∷ second ∷ []) mapping_relations refl refl
    c.insert_mapping-3.ensures.steps)

pub returns-in_err-insert_mapping-clause-steps : goal.returns-in_err-insert_mapping-clause-steps
returns-in_err-insert_mapping-clause-steps g c = steps_failed _ c.from_residual.ensures.0 c.insert_mapping.ensures.steps

pub returns-in_err-insert_mapping-2-clause-steps : goal.returns-in_err-insert_mapping-2-clause-steps
returns-in_err-insert_mapping-2-clause-steps g c =
    steps_failed _ c.from_residual-in_err-insert_mapping-2.ensures.0
    (made_then relations_listed [] (first ∷ []) (first ∷ second ∷ [])
    (made_by relations_listed first [] (first ∷ []) refl refl c.in_ok-insert_mapping.ensures.steps)
    (made_by relations_listed second (first ∷ []) (first ∷ second ∷ []) refl refl
    c.insert_mapping-2.ensures.steps))
