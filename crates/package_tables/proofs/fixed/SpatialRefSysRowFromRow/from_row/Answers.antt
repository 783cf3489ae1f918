use Rattle.std.proofs.Common.{◌≡◌, ◌∙◌, length, refl, rules, arith, to_z-of_z, FitsSigned, w64}
use Rattle.package_tables.specs.Shown.{spatial_ref_sys_shown}
use Rattle.package_tables.proofs.Columns.{columns}
use Rattle.package_tables.proofs.Decoding.{no_number, no_text}
use Rattle.package_tables.proofs.fixed.SpatialRefSysRowFromRow.from_row.Goals as goal

pub returns-clause-value : goal.returns-clause-value
returns-clause-value c =
    let count : length c.args.row.now ≡ 6 = omega (arith, c.column_count.ensures, c.if-column_count-ne6.false) in
    let n1 : FitsSigned w64 c.in_ok-number_at.field-0 = search rules in
    let n3 : FitsSigned w64 c.in_ok-number_at-2.field-0 = search rules in
    simp (to_z-of_z, n1, n3) (columns 6 c.args.row.now count
    ∙ rw (
      c.in_ok-text_at.ensures.text,
      c.in_ok-number_at.ensures.number,
      c.in_ok-text_at-2.ensures.text,
      c.in_ok-number_at-2.ensures.number,
      c.in_ok-text_at-3.ensures.text,
      c.in_ok-text_at-4.ensures.text,
    ) refl)

pub returns-in_err-number_at-clause-none : goal.returns-in_err-number_at-clause-none
returns-in_err-number_at-clause-none c = no_number spatial_ref_sys_shown 1 c.args.row.now c.from_residual.result
    c.in_err-number_at.field-0.0 c.from_residual.ensures.1 c.in_err-number_at.ensures.none (λ x. x.srs_id)
    (λ x. refl)

pub returns-in_err-number_at-2-clause-none : goal.returns-in_err-number_at-2-clause-none
returns-in_err-number_at-2-clause-none c = no_number spatial_ref_sys_shown 3 c.args.row.now
    c.from_residual-in_err-number_at-2.result c.in_err-number_at-2.field-0.0
    c.from_residual-in_err-number_at-2.ensures.1 c.in_err-number_at-2.ensures.none (λ x. x.organization_coordsys_id)
    (λ x. refl)

pub returns-in_err-text_at-clause-none : goal.returns-in_err-text_at-clause-none
returns-in_err-text_at-clause-none c = no_text spatial_ref_sys_shown 0 c.args.row.now
    c.from_residual-in_err-text_at.result c.in_err-text_at.field-0.0 c.from_residual-in_err-text_at.ensures.1
    c.in_err-text_at.ensures.none (λ x. x.srs_name) (λ x. refl)

pub returns-in_err-text_at-2-clause-none : goal.returns-in_err-text_at-2-clause-none
returns-in_err-text_at-2-clause-none c = no_text spatial_ref_sys_shown 2 c.args.row.now
    c.from_residual-in_err-text_at-2.result c.in_err-text_at-2.field-0.0 c.from_residual-in_err-text_at-2.ensures.1
    c.in_err-text_at-2.ensures.none (λ x. x.organization) (λ x. refl)

pub returns-in_err-text_at-3-clause-none : goal.returns-in_err-text_at-3-clause-none
returns-in_err-text_at-3-clause-none c = no_text spatial_ref_sys_shown 4 c.args.row.now
    c.from_residual-in_err-text_at-3.result c.in_err-text_at-3.field-0.0 c.from_residual-in_err-text_at-3.ensures.1
    c.in_err-text_at-3.ensures.none (λ x. x.definition) (λ x. refl)

pub returns-in_err-text_at-4-clause-none : goal.returns-in_err-text_at-4-clause-none
returns-in_err-text_at-4-clause-none c = no_text spatial_ref_sys_shown 5 c.args.row.now
    c.from_residual-in_err-text_at-4.result c.in_err-text_at-4.field-0.0 c.from_residual-in_err-text_at-4.ensures.1
    c.in_err-text_at-4.ensures.none (λ x. x.description) (λ x. refl)
