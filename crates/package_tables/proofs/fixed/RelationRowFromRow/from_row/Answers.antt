use Rattle.std.proofs.Common.{◌≡◌, ◌∙◌, length, refl, rules, arith, to_z-of_z, FitsSigned, w64}
use Rattle.package_tables.specs.Shown.{relation_shown}
use Rattle.package_tables.proofs.Columns.{columns}
use Rattle.package_tables.proofs.Decoding.{no_number, no_text}
use Rattle.package_tables.proofs.fixed.RelationRowFromRow.from_row.Goals as goal

pub returns-clause-value : goal.returns-clause-value
returns-clause-value c =
    let count : length c.args.row.now ≡ 7 = omega (arith, c.column_count.ensures, c.if-column_count-ne7.false) in
    let n0 : FitsSigned w64 c.in_ok-number_at.field-0 = search rules in
    simp (to_z-of_z, n0) (columns 7 c.args.row.now count ∙ rw (
      c.in_ok-number_at.ensures.number,
      c.in_ok-text_at.ensures.text,
      c.in_ok-text_at-2.ensures.text,
      c.in_ok-text_at-3.ensures.text,
      c.in_ok-text_at-4.ensures.text,
      c.in_ok-text_at-5.ensures.text,
      c.in_ok-text_at-6.ensures.text,
    ) refl)

pub returns-in_err-number_at-clause-none : goal.returns-in_err-number_at-clause-none
returns-in_err-number_at-clause-none c = no_number relation_shown 0 c.args.row.now c.from_residual.result
    c.in_err-number_at.field-0.0 c.from_residual.ensures.1 c.in_err-number_at.ensures.none (λ x. x.id) (λ x. refl)

pub returns-in_err-text_at-clause-none : goal.returns-in_err-text_at-clause-none
returns-in_err-text_at-clause-none c = no_text relation_shown 1 c.args.row.now c.from_residual-in_err-text_at.result
    c.in_err-text_at.field-0.0 c.from_residual-in_err-text_at.ensures.1 c.in_err-text_at.ensures.none
    (λ x. x.base_table_name) (λ x. refl)

pub returns-in_err-text_at-2-clause-none : goal.returns-in_err-text_at-2-clause-none
returns-in_err-text_at-2-clause-none c = no_text relation_shown 2 c.args.row.now
    c.from_residual-in_err-text_at-2.result c.in_err-text_at-2.field-0.0 c.from_residual-in_err-text_at-2.ensures.1
    c.in_err-text_at-2.ensures.none (λ x. x.base_primary_column) (λ x. refl)

pub returns-in_err-text_at-3-clause-none : goal.returns-in_err-text_at-3-clause-none
returns-in_err-text_at-3-clause-none c = no_text relation_shown 3 c.args.row.now
    c.from_residual-in_err-text_at-3.result c.in_err-text_at-3.field-0.0 c.from_residual-in_err-text_at-3.ensures.1
    c.in_err-text_at-3.ensures.none (λ x. x.related_table_name) (λ x. refl)

pub returns-in_err-text_at-4-clause-none : goal.returns-in_err-text_at-4-clause-none
returns-in_err-text_at-4-clause-none c = no_text relation_shown 4 c.args.row.now
    c.from_residual-in_err-text_at-4.result c.in_err-text_at-4.field-0.0 c.from_residual-in_err-text_at-4.ensures.1
    c.in_err-text_at-4.ensures.none (λ x. x.related_primary_column) (λ x. refl)

pub returns-in_err-text_at-5-clause-none : goal.returns-in_err-text_at-5-clause-none
returns-in_err-text_at-5-clause-none c = no_text relation_shown 5 c.args.row.now
    c.from_residual-in_err-text_at-5.result c.in_err-text_at-5.field-0.0 c.from_residual-in_err-text_at-5.ensures.1
    c.in_err-text_at-5.ensures.none (λ x. x.relation_name) (λ x. refl)

pub returns-in_err-text_at-6-clause-none : goal.returns-in_err-text_at-6-clause-none
returns-in_err-text_at-6-clause-none c = no_text relation_shown 6 c.args.row.now
    c.from_residual-in_err-text_at-6.result c.in_err-text_at-6.field-0.0 c.from_residual-in_err-text_at-6.ensures.1
    c.in_err-text_at-6.ensures.none (λ x. x.mapping_table_name) (λ x. refl)
