-- The files so far were added, or passed over.
use Rattle.std.proofs.Common.{◌≡◌, ◌+◌, List, Bool, take}
use Rattle.command_trees.specs.Adding.{AreAdded, AreCounted}
use Rattle.command_trees.proofs.adding.add_files.Given as goal

abbrev pub invariant-loop-file : goal.invariant-loop-file
invariant-loop-file g l = record {
  so_far : (told : List Bool) × AreAdded g.S.Store g.N.Identities.gives g.F.Sheets.gives l.target l.items
      (take l.file-index l.files) told (record { world = l.fn.world; ids = l.fn.identities; sheets = l.fn.sheets })
      (record { world = l.world; ids = l.identities; sheets = l.sheets }) × AreCounted told l.counts;
  all : l.counts.added + l.counts.passed ≡ l.file-index;
}
