use Rattle.std.proofs.Common.{◌≡◌, ◌∙◌, length, refl, rules, arith, to_z-of_z, FitsSigned, w64}
use Rattle.package_tables.specs.Shown.{identity_shown}
use Rattle.package_tables.proofs.Columns.{columns}
use Rattle.package_tables.proofs.Decoding.{no_number, no_text}
use Rattle.package_tables.proofs.identities.IdentityRowFromRow.from_row.Goals as goal

pub returns-clause-value : goal.returns-clause-value
returns-clause-value c =
    let count : length c.args.row.now ≡ 3 = omega (arith, c.column_count.ensures, c.if-column_count-ne3.false) in
    let n0 : FitsSigned w64 c.in_ok-number_at.field-0 = search rules in
    let n1 : FitsSigned w64 c.in_ok-number_at-2.field-0 = search rules in
    simp (to_z-of_z, n0, n1) (columns 3 c.args.row.now count
    ∙ rw (c.in_ok-number_at.ensures.number, c.in_ok-number_at-2.ensures.number, c.in_ok-text_at.ensures.text)
    refl)

pub returns-in_err-number_at-clause-none : goal.returns-in_err-number_at-clause-none
returns-in_err-number_at-clause-none c = no_number identity_shown 0 c.args.row.now c.from_residual.result
    c.in_err-number_at.field-0.0 c.from_residual.ensures.1 c.in_err-number_at.ensures.none (λ x. x.kind) (λ x. refl)

pub returns-in_err-number_at-2-clause-none : goal.returns-in_err-number_at-2-clause-none
returns-in_err-number_at-2-clause-none c = no_number identity_shown 1 c.args.row.now
    c.from_residual-in_err-number_at-2.result c.in_err-number_at-2.field-0.0
    c.from_residual-in_err-number_at-2.ensures.1 c.in_err-number_at-2.ensures.none (λ x. x.local_id) (λ x. refl)

pub returns-in_err-text_at-clause-none : goal.returns-in_err-text_at-clause-none
returns-in_err-text_at-clause-none c = no_text identity_shown 2 c.args.row.now c.from_residual-in_err-text_at.result
    c.in_err-text_at.field-0.0 c.from_residual-in_err-text_at.ensures.1 c.in_err-text_at.ensures.none (λ x. x.uuid)
    (λ x. refl)
