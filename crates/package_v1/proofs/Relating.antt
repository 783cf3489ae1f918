-- A relation comes in.
use Rattle.std.proofs.Common.{ℕ, pos, List, [], ◌∷◌, codes, Ok, refl, ap, ◌∙◌}
use Rattle.sqlite.specs.Order.{Row}
use Rattle.sqlite.specs.Effect.{Database}
use Rattle.sqlite.specs.State.{State, Executes}
use Rattle.sqlite.specs.declared.types.Value.TheVariants.{Int, Text, Null}
use Rattle.store_sql.specs.Writing.{Inserts}
use Rattle.store_sql.proofs.Insert.{inserted as statement_inserted}
use Rattle.package_tables.specs.Package.{tables_of}
use Rattle.package_tables.specs.Listed.{relations}
use Rattle.package_tables.specs.Shapes.{relation_shape}
use Rattle.package_tables.specs.Tables.{gpkgext_relations}
use Rattle.package_tables.specs.declared.rows.RelationRow.{RelationRow}
use Rattle.package_tables.proofs.Shapes.{inserted}
use Rattle.package_tables.proofs.Written.{relations_listed}
use Rattle.package_tables.proofs.FixedStatements.{relation_insert_text, relation_insert_row}
use Rattle.package_v1.specs.Migrating.{AddsRelation}

abbrev pub insert_text : List ℕ
insert_text = codes "INSERT INTO gpkgext_relations VALUES (?1, ?2, ?3, ?4, ?5, ?6, ?7)"

abbrev pub params_of : RelationRow → Row
params_of row = Int row.id ∷ Text row.base_table_name ∷ Text row.base_primary_column ∷ Text row.related_table_name
    ∷ Text row.related_primary_column ∷ Text row.relation_name ∷ Text row.mapping_table_name ∷ []

adds : (row : RelationRow) (old new : Database) → Inserts gpkgext_relations (λ there. relation_shape.stored Null row)
    old new → AddsRelation row old new
adds row old new inserts formed =
    let here = formed.relations in
    let spares = (inserts here.placed.at here.placed.spelling here.placed.has formed.quiet).spares in
    let did = inserted relation_shape relations_listed.laws (λ there. relation_shape.stored Null row) row old new
    inserts formed.quiet here (λ there. (Int (pos 0), refl, refl)) in
    let both = relations_listed.written here.placed.spelling old new spares formed did.0 in
    (both.0, (λ fresh. both.1 ∙ ap (λ l. relations.with_rows l (tables_of old)) (did.1 fresh)), spares.schema)

pub relation_added : (row : RelationRow) (old new : State) (count : ℕ)
    → Executes insert_text (params_of row) old new (Ok count) → AddsRelation row old.now new.now
relation_added row old new count h =
    adds row old.now new.now (statement_inserted insert_text gpkgext_relations relation_insert_text (params_of row)
    (λ there. relation_shape.stored Null row) (relation_insert_row row) old new count h)
