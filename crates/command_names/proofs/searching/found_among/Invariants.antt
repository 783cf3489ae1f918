-- Those so far are searched.
use Rattle.std.proofs.Common.{ℕ, List, ◌++◌, map, take}
use Rattle.sheet_types.specs.declared.command.Item.{Item}
use Rattle.command_names.specs.Searching.{IsFound}
use Rattle.command_names.proofs.searching.found_among.Given as goal

abbrev pub invariant-loop-item : goal.invariant-loop-item
invariant-loop-item l = (before : List (List ℕ)) → IsFound l.word before l.fn.found
    → IsFound l.word (before ++ map (λ (i : Item). i.identity) (take l.item-index l.items)) l.next
