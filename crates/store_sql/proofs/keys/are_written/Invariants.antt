use Rattle.std.proofs.Common.{map, take}
use Rattle.std.specs.List.{AllByRecursion}
use Rattle.store_sql.specs.Forms.{reference_of}
use Rattle.store_sql.specs.Spelling.{IsWritten}
use Rattle.store_sql.proofs.keys.are_written.Given as goal

abbrev pub invariant-loop-form : goal.invariant-loop-form
invariant-loop-form l = AllByRecursion (λ f. IsWritten l.references (reference_of f)) (take l.form-index l.forms)
