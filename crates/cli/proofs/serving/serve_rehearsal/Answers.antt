-- The list is read, carried out, and its world served.
use Rattle.std.proofs.Common.{◌∙◌, sym, subst, IfSome}
use Rattle.request_csv.specs.RequestLists.{IsList}
use Rattle.sheet_types.specs.World.{new_world}
use Rattle.manifest_csv.specs.declared.importing.ImportFault.TheVariants.{Unread}
use Rattle.cli.specs.Rehearsals.{Rehearses}
use Rattle.cli.proofs.Rehearsing.{never_done, unread}
use Rattle.cli.proofs.serving.serve_rehearsal.Goals as goal

pub returns-in-Ok : goal.returns-in-Ok
returns-in-Ok g c =
    c.served_by_either.ensures (g.R.Read.remaining c.args.reader)
    (subst (λ qs. IfSome (g.R.Read.remaining c.args.reader) (λ t. IsList t qs)) (sym c.as_slice.ensures.value)
    c.in-Ok.ensures.list)

pub returns-in-Err : goal.returns-in-Err
returns-in-Err g c = (
  λ e. never_done (Unread c.in-Err.fault) (sym c.end_of_import.ensures ∙ e),
  subst (Rehearses (new_world c.args.rehearsal.now.archive c.args.rehearsal.now.frame)
      (g.R.Read.remaining c.args.reader) c.args.writer.now c.args.writer.now (g.W.Write.contents c.args.writer.now)
      (g.W.Write.contents c.args.writer.now)) (sym c.end_of_import.ensures)
      (unread (new_world c.args.rehearsal.now.archive c.args.rehearsal.now.frame) (g.R.Read.remaining c.args.reader)
      c.args.writer.now (g.W.Write.contents c.args.writer.now) c.in-Err.fault c.in-Err.ensures.fault),
)
