use Rattle.std.proofs.Common.{take}
use Rattle.cut.specs.Gathering.{Enters}
use Rattle.cut.proofs.group.Group.enter_all.Given as goal

abbrev pub invariant-loop-id : goal.invariant-loop-id
invariant-loop-id l = Enters (take l.id-index l.ids) l.fn.self l.self
