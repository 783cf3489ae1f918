use Rattle.store_sql.specs.Forms.{reference_of}
use Rattle.store_sql.specs.Spelling.{IsWritten}
use Rattle.store_sql.proofs.Spelling.{all_mapped, all_unmapped}
use Rattle.store_sql.proofs.keys.have_references.Goals as goal

pub returns : goal.returns
returns c = (
  λ yes. all_mapped (IsWritten c.args.references.now) reference_of c.args.forms.now (c.are_written.ensures.0 yes),
  λ all. c.are_written.ensures.1 (all_unmapped (IsWritten c.args.references.now) reference_of c.args.forms.now all),
)
