use Rattle.std.proofs.Common.{◌≡◌, [], ◌++◌, take, drop}
use Rattle.std.specs.Prelude.{string_bytes}
use Rattle.field_faults.specs.Lines.{HasPlaces, item_lines}
use Rattle.field_faults.proofs.lines.add_item_lines.Given as goal

-- the lines so far and those to come, and the places so far
abbrev pub invariant-loop-item : goal.invariant-loop-item
invariant-loop-item l = record {
  lines : string_bytes l.initial.text ++ item_lines l.judge.frame.now l.judge.items.now l.judge.more l.exported []
      l.items
      ≡ string_bytes l.text ++ item_lines l.judge.frame.now l.judge.items.now l.judge.more l.exported
      (take l.item-index l.items) (drop l.item-index l.items);
  places : HasPlaces l.judge.frame.now (take l.item-index l.items) l.places;
}
