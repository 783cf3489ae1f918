-- Done where a world was handed on, and else how it ended.
use Rattle.std.proofs.Common.{sym, subst}
use Rattle.sheet_types.specs.World.{new_world}
use Rattle.cli.specs.Rehearsals.{Rehearses}
use Rattle.cli.proofs.rehearse.over.Goals.{in-Ok, in-Err}
use Rattle.cli.proofs.rehearse.over.Goals as goal

pub returns : goal.returns
returns g c = λ clean text list. elim c.match-handed_on.branch [
  | in-Ok w ↦
      subst (Rehearses (new_world c.args.rehearsal.now.archive c.args.rehearsal.now.frame) text c.args.writer.now
      c.handed_on.new.writer (g.W.Write.contents c.args.writer.now) (g.W.Write.contents c.handed_on.new.writer))
      (sym w.result-is)
      (w.in-Ok.ensures clean text list).0
  | in-Err w ↦
      subst (Rehearses (new_world c.args.rehearsal.now.archive c.args.rehearsal.now.frame) text c.args.writer.now
      c.handed_on.new.writer (g.W.Write.contents c.args.writer.now) (g.W.Write.contents c.handed_on.new.writer))
      (sym w.result-is)
      (w.in-Err.ensures clean text list).1
]
