use Rattle.view_export.proofs.Texts.{joined, ok_is}
use Rattle.view_export.proofs.schema.standard_tables.Goals as goal

pub returns : goal.returns
returns c = ok_is c.format.result _ _ (joined c.reference_systems_table-systems.ensures
    (joined c.contents_table-contents.ensures (joined c.geometry_columns_table-columns.ensures
    (joined c.matrix_set_table-sets.ensures (joined c.matrix_table-matrices.ensures
    (joined c.extensions_table-extensions.ensures c.relations_table-relations.ensures)))))) c.format.ensures.ok
