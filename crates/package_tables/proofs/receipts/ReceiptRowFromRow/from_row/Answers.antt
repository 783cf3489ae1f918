use Rattle.std.proofs.Common.{◌≡◌, ◌∙◌, length, refl, rules, arith, to_z-of_z, FitsSigned, w64}
use Rattle.package_tables.specs.Shown.{receipt_shown}
use Rattle.package_tables.proofs.Columns.{columns}
use Rattle.package_tables.proofs.Decoding.{no_number, no_text}
use Rattle.package_tables.proofs.receipts.ReceiptRowFromRow.from_row.Goals as goal

pub returns-clause-value : goal.returns-clause-value
returns-clause-value c =
    let count : length c.args.row.now ≡ 11 = omega (arith, c.column_count.ensures, c.if-column_count-ne11.false) in
    let n0 : FitsSigned w64 c.in_ok-number_at.field-0 = search rules in
    let n6 : FitsSigned w64 c.in_ok-number_at-2.field-0 = search rules in
    let n7 : FitsSigned w64 c.in_ok-number_at-3.field-0 = search rules in
    let n8 : FitsSigned w64 c.in_ok-number_at-4.field-0 = search rules in
    let n9 : FitsSigned w64 c.in_ok-number_at-5.field-0 = search rules in
    let n10 : FitsSigned w64 c.in_ok-number_at-6.field-0 = search rules in
    simp (to_z-of_z, n0, n6, n7, n8, n9, n10) (columns 11 c.args.row.now count
    ∙ rw (
      c.in_ok-number_at.ensures.number,
      c.in_ok-text_at.ensures.text,
      c.in_ok-text_at-2.ensures.text,
      c.in_ok-text_at-3.ensures.text,
      c.in_ok-text_at-4.ensures.text,
      c.in_ok-text_at-5.ensures.text,
      c.in_ok-number_at-2.ensures.number,
      c.in_ok-number_at-3.ensures.number,
      c.in_ok-number_at-4.ensures.number,
      c.in_ok-number_at-5.ensures.number,
      c.in_ok-number_at-6.ensures.number,
    ) refl)

pub returns-in_err-number_at-clause-none : goal.returns-in_err-number_at-clause-none
returns-in_err-number_at-clause-none c = no_number receipt_shown 0 c.args.row.now c.from_residual.result
    c.in_err-number_at.field-0.0 c.from_residual.ensures.1 c.in_err-number_at.ensures.none (λ x. x.seq) (λ x. refl)

pub returns-in_err-number_at-2-clause-none : goal.returns-in_err-number_at-2-clause-none
returns-in_err-number_at-2-clause-none c = no_number receipt_shown 6 c.args.row.now
    c.from_residual-in_err-number_at-2.result c.in_err-number_at-2.field-0.0
    c.from_residual-in_err-number_at-2.ensures.1 c.in_err-number_at-2.ensures.none (λ x. x.n_tiles) (λ x. refl)

pub returns-in_err-number_at-3-clause-none : goal.returns-in_err-number_at-3-clause-none
returns-in_err-number_at-3-clause-none c = no_number receipt_shown 7 c.args.row.now
    c.from_residual-in_err-number_at-3.result c.in_err-number_at-3.field-0.0
    c.from_residual-in_err-number_at-3.ensures.1 c.in_err-number_at-3.ensures.none (λ x. x.n_media) (λ x. refl)

pub returns-in_err-number_at-4-clause-none : goal.returns-in_err-number_at-4-clause-none
returns-in_err-number_at-4-clause-none c = no_number receipt_shown 8 c.args.row.now
    c.from_residual-in_err-number_at-4.result c.in_err-number_at-4.field-0.0
    c.from_residual-in_err-number_at-4.ensures.1 c.in_err-number_at-4.ensures.none (λ x. x.n_rows) (λ x. refl)

pub returns-in_err-number_at-5-clause-none : goal.returns-in_err-number_at-5-clause-none
returns-in_err-number_at-5-clause-none c = no_number receipt_shown 9 c.args.row.now
    c.from_residual-in_err-number_at-5.result c.in_err-number_at-5.field-0.0
    c.from_residual-in_err-number_at-5.ensures.1 c.in_err-number_at-5.ensures.none (λ x. x.n_links) (λ x. refl)

pub returns-in_err-number_at-6-clause-none : goal.returns-in_err-number_at-6-clause-none
returns-in_err-number_at-6-clause-none c = no_number receipt_shown 10 c.args.row.now
    c.from_residual-in_err-number_at-6.result c.in_err-number_at-6.field-0.0
    c.from_residual-in_err-number_at-6.ensures.1 c.in_err-number_at-6.ensures.none (λ x. x.n_bytes) (λ x. refl)

pub returns-in_err-text_at-clause-none : goal.returns-in_err-text_at-clause-none
returns-in_err-text_at-clause-none c = no_text receipt_shown 1 c.args.row.now c.from_residual-in_err-text_at.result
    c.in_err-text_at.field-0.0 c.from_residual-in_err-text_at.ensures.1 c.in_err-text_at.ensures.none
    (λ x. x.request) (λ x. refl)

pub returns-in_err-text_at-2-clause-none : goal.returns-in_err-text_at-2-clause-none
returns-in_err-text_at-2-clause-none c = no_text receipt_shown 2 c.args.row.now
    c.from_residual-in_err-text_at-2.result c.in_err-text_at-2.field-0.0 c.from_residual-in_err-text_at-2.ensures.1
    c.in_err-text_at-2.ensures.none (λ x. x.at) (λ x. refl)

pub returns-in_err-text_at-3-clause-none : goal.returns-in_err-text_at-3-clause-none
returns-in_err-text_at-3-clause-none c = no_text receipt_shown 3 c.args.row.now
    c.from_residual-in_err-text_at-3.result c.in_err-text_at-3.field-0.0 c.from_residual-in_err-text_at-3.ensures.1
    c.in_err-text_at-3.ensures.none (λ x. x.line) (λ x. refl)

pub returns-in_err-text_at-4-clause-none : goal.returns-in_err-text_at-4-clause-none
returns-in_err-text_at-4-clause-none c = no_text receipt_shown 4 c.args.row.now
    c.from_residual-in_err-text_at-4.result c.in_err-text_at-4.field-0.0 c.from_residual-in_err-text_at-4.ensures.1
    c.in_err-text_at-4.ensures.none (λ x. x.source) (λ x. refl)

pub returns-in_err-text_at-5-clause-none : goal.returns-in_err-text_at-5-clause-none
returns-in_err-text_at-5-clause-none c = no_text receipt_shown 5 c.args.row.now
    c.from_residual-in_err-text_at-5.result c.in_err-text_at-5.field-0.0 c.from_residual-in_err-text_at-5.ensures.1
    c.in_err-text_at-5.ensures.none (λ x. x.target) (λ x. refl)
