-- The content is that of the item, wherever it lies.
use Rattle.std.proofs.Common.{rules}
use Rattle.field_changes.proofs.naming.known_as.Goals as goal
use Rattle.field_changes.proofs.naming.known_as.Goals.{in-Old, in-New+in_ok-new_identity-in-New}

pub returns : goal.returns
returns c = elim c.match-name.branch [
  | in-Old w ↦ rw (w.identity-is, w.in-Old.is, c.kind.ensures, c.get-content.ensures) (search rules)
  | in-New+in_ok-new_identity-in-New w ↦
      rw (w.identity-is, w.in-New.is, w.in_ok-new_identity-in-New.ensures, c.kind.ensures, c.get-content.ensures)
      (search rules)
]
