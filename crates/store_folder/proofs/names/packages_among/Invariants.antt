use Rattle.std.proofs.Common.{map, take}
use Rattle.store_folder.specs.Names.{HaveFiles}
use Rattle.store_folder.proofs.names.packages_among.Given as goal

abbrev pub invariant-loop-name : goal.invariant-loop-name
invariant-loop-name l = HaveFiles (map (λ name. name.now) (take l.name-index l.names)) l.packages.items
