use Rattle.std.proofs.Common.{◌≡◌, ◌∙◌, length, refl, rules, arith, to_z-of_z, FitsSigned, w64}
use Rattle.package_tables.specs.Shown.{moved_shown}
use Rattle.package_tables.proofs.Columns.{columns}
use Rattle.package_tables.proofs.Decoding.{no_number, no_text}
use Rattle.package_tables.proofs.moved.MovedRowFromRow.from_row.Goals as goal

pub returns-clause-value : goal.returns-clause-value
returns-clause-value c =
    let count : length c.args.row.now ≡ 7 = omega (arith, c.column_count.ensures, c.if-column_count-ne7.false) in
    let n0 : FitsSigned w64 c.in_ok-number_at.field-0 = search rules in
    let n1 : FitsSigned w64 c.in_ok-number_at-2.field-0 = search rules in
    let n2 : FitsSigned w64 c.in_ok-number_at-3.field-0 = search rules in
    let n5 : FitsSigned w64 c.in_ok-number_at-4.field-0 = search rules in
    simp (to_z-of_z, n0, n1, n2, n5) (columns 7 c.args.row.now count
    ∙ rw (
      c.in_ok-number_at.ensures.number,
      c.in_ok-number_at-2.ensures.number,
      c.in_ok-number_at-3.ensures.number,
      c.in_ok-text_at.ensures.text,
      c.in_ok-text_at-2.ensures.text,
      c.in_ok-number_at-4.ensures.number,
      c.in_ok-text_at-3.ensures.text,
    ) refl)

pub returns-in_err-number_at-clause-none : goal.returns-in_err-number_at-clause-none
returns-in_err-number_at-clause-none c = no_number moved_shown 0 c.args.row.now c.from_residual.result
    c.in_err-number_at.field-0.0 c.from_residual.ensures.1 c.in_err-number_at.ensures.none (λ x. x.seq) (λ x. refl)

pub returns-in_err-number_at-2-clause-none : goal.returns-in_err-number_at-2-clause-none
returns-in_err-number_at-2-clause-none c = no_number moved_shown 1 c.args.row.now
    c.from_residual-in_err-number_at-2.result c.in_err-number_at-2.field-0.0
    c.from_residual-in_err-number_at-2.ensures.1 c.in_err-number_at-2.ensures.none (λ x. x.position) (λ x. refl)

pub returns-in_err-number_at-3-clause-none : goal.returns-in_err-number_at-3-clause-none
returns-in_err-number_at-3-clause-none c = no_number moved_shown 2 c.args.row.now
    c.from_residual-in_err-number_at-3.result c.in_err-number_at-3.field-0.0
    c.from_residual-in_err-number_at-3.ensures.1 c.in_err-number_at-3.ensures.none (λ x. x.kind) (λ x. refl)

pub returns-in_err-number_at-4-clause-none : goal.returns-in_err-number_at-4-clause-none
returns-in_err-number_at-4-clause-none c = no_number moved_shown 5 c.args.row.now
    c.from_residual-in_err-number_at-4.result c.in_err-number_at-4.field-0.0
    c.from_residual-in_err-number_at-4.ensures.1 c.in_err-number_at-4.ensures.none (λ x. x.size) (λ x. refl)

pub returns-in_err-text_at-clause-none : goal.returns-in_err-text_at-clause-none
returns-in_err-text_at-clause-none c = no_text moved_shown 3 c.args.row.now c.from_residual-in_err-text_at.result
    c.in_err-text_at.field-0.0 c.from_residual-in_err-text_at.ensures.1 c.in_err-text_at.ensures.none (λ x. x.base)
    (λ x. refl)

pub returns-in_err-text_at-2-clause-none : goal.returns-in_err-text_at-2-clause-none
returns-in_err-text_at-2-clause-none c = no_text moved_shown 4 c.args.row.now c.from_residual-in_err-text_at-2.result
    c.in_err-text_at-2.field-0.0 c.from_residual-in_err-text_at-2.ensures.1 c.in_err-text_at-2.ensures.none
    (λ x. x.other) (λ x. refl)

pub returns-in_err-text_at-3-clause-none : goal.returns-in_err-text_at-3-clause-none
returns-in_err-text_at-3-clause-none c = no_text moved_shown 6 c.args.row.now c.from_residual-in_err-text_at-3.result
    c.in_err-text_at-3.field-0.0 c.from_residual-in_err-text_at-3.ensures.1 c.in_err-text_at-3.ensures.none
    (λ x. x.fingerprint) (λ x. refl)
