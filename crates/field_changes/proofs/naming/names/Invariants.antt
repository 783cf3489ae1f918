use Rattle.std.proofs.Common.{◌≡◌, [], take}
use Rattle.field_changes.specs.Naming.{names_behind}
use Rattle.field_changes.specs.Spare.{IsWalk}
use Rattle.field_changes.proofs.naming.names.Given as goal

-- those so far have their names
abbrev pub invariant-loop-item : goal.invariant-loop-item
invariant-loop-item l = record {
  names : l.names.items ≡ names_behind l.package l.ticket l.items l.file [] (take l.item-index l.file);
  walk : IsWalk l.items l.file (take l.item-index l.file) l.walk;
}
