use Rattle.std.proofs.Common.{take}
use Rattle.std.specs.List.{AllZip}
use Rattle.identity_register.specs.Gathered.{IsLinkOf}
use Rattle.identity_register.proofs.whole.links_of.Given as goal

abbrev pub invariant-loop-pair : goal.invariant-loop-pair
invariant-loop-pair l = AllZip (IsLinkOf l.mapping l.rows) (take l.pair-index l.pairs) l.links.items
