use Rattle.std.proofs.Common.{take}
use Rattle.sheet_types.specs.Ordered.{IsArranged}
use Rattle.sheet_types.specs.World.{moved_key}
use Rattle.sheet_ledger.proofs.forms.is_arranged.Given as goal

-- those so far are in order
abbrev pub invariant-loop-at : goal.invariant-loop-at
invariant-loop-at l = IsArranged moved_key (take l.at l.things)
