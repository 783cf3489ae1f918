use Rattle.std.proofs.Common.{take}
use Rattle.std.specs.List.{AllZip}
use Rattle.command_folder.proofs.choosing.look_at_all.Given as goal

abbrev pub invariant-loop-package : goal.invariant-loop-package
invariant-loop-package g l = record {
  shown : AllZip g.G.Glances.shown (take l.package-index l.packages) l.sights.items;
}
