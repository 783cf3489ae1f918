use Rattle.std.proofs.Common.{map, take}
use Rattle.store_folder.specs.Removals.{RemovesAllBeside}
use Rattle.store_folder.proofs.removing.remove_beside_each.Given as goal

-- of the names so far all went that are beside the file
abbrev pub invariant-loop-name : goal.invariant-loop-name
invariant-loop-name g l = RemovesAllBeside g.F.RemoveFile.removes (map (λ name. name.now) (take l.name-index l.names))
    l.file l.fn.files l.files
