-- Those so far.
use Rattle.std.proofs.Common.{take}
use Rattle.sheet_kept_laws.specs.Laws.{HaveTypes}
use Rattle.promises.proofs.typing.have_types.Given as goal

abbrev pub invariant-loop-request : goal.invariant-loop-request
invariant-loop-request l = HaveTypes (take l.request-index l.requests)
