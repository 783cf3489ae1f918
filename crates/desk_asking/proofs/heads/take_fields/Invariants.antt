-- What was taken are lines that are not empty.
use Rattle.desk_asking.proofs.Copying.{FieldsSoFar}
use Rattle.desk_asking.proofs.heads.take_fields.Given as goal

abbrev pub invariant-fields : goal.invariant-fields
invariant-fields g l = FieldsSoFar (g.R.Read.remaining l.initial.reader) (g.R.Read.remaining l.reader)
