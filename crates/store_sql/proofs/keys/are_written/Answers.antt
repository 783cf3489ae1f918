use Rattle.std.proofs.Common.{false, sym, ◌∙◌}
use Rattle.std.proofs.lemmas.Bool.{false≢true}
use Rattle.store_sql.specs.Forms.{reference_of}
use Rattle.store_sql.specs.Spelling.{IsWritten}
use Rattle.store_sql.proofs.Spelling.{all_there}
use Rattle.store_sql.proofs.keys.are_written.Goals as goal

pub returns-then-not-has_reference : goal.returns-then-not-has_reference
returns-then-not-has_reference c = (
  λ h. absurd (false≢true h),
  λ all. sym c.if-not-has_reference.true ∙ c.has_reference.ensures.1
      (all_there (λ f. IsWritten c.args.references.now (reference_of f)) c.args.forms.now c.loop-form.form-index _
      c.loop-form-test.true all),
)
