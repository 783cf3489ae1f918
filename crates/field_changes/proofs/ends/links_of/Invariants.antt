use Rattle.std.proofs.Common.{take}
use Rattle.std.specs.List.{AllZip}
use Rattle.field_changes.specs.Parts.{IsLinkOf}
use Rattle.field_changes.proofs.ends.links_of.Given as goal

-- those so far
abbrev pub invariant-loop-link : goal.invariant-loop-link
invariant-loop-link l = AllZip (IsLinkOf l.names) (take l.link-index l.links) l.relations.items
