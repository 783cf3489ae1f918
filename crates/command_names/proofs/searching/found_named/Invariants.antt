-- Those so far are searched.
use Rattle.std.proofs.Common.{ℕ, List, ◌++◌, map, take}
use Rattle.command_verbs.specs.declared.names.PackageEntry.{PackageEntry}
use Rattle.command_names.specs.Searching.{IsFound}
use Rattle.command_names.proofs.searching.found_named.Given as goal

abbrev pub invariant-loop-entry : goal.invariant-loop-entry
invariant-loop-entry l = (before : List (List ℕ)) → IsFound l.word before l.fn.found
    → IsFound l.word (before ++ map (λ (p : PackageEntry). p.uuid) (take l.entry-index l.packages)) l.next
