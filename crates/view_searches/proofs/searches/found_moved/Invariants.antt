-- Those so far are searched.
use Rattle.std.proofs.Common.{ℕ, List, ◌++◌, take}
use Rattle.command_names.specs.Searching.{IsFound}
use Rattle.view_searches.specs.Searches.{identities_of}
use Rattle.view_searches.proofs.searches.found_moved.Given as goal

abbrev pub invariant-loop-thing : goal.invariant-loop-thing
invariant-loop-thing l = (before : List (List ℕ)) → IsFound l.word before l.fn.found
    → IsFound l.word (before ++ identities_of (take l.thing-index l.things)) l.next
