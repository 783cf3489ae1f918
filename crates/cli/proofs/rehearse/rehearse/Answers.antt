-- Words ask for one archive at most.
use Rattle.std.proofs.Common.{sym, subst}
use Rattle.sheet_types.specs.World.{new_world}
use Rattle.cli.specs.Rehearsals.{Rehearses}
use Rattle.cli.proofs.Rehearsing.{asks_read, one_asked}
use Rattle.cli.proofs.rehearse.rehearse.Goals as goal

pub returns-in-Ok-clause-carried : goal.returns-in-Ok-clause-carried
returns-in-Ok-clause-carried g c = λ uuid moment frame asks.
    let same = one_asked c.args.words.now.archive.now c.args.words.now.at.now c.args.words.now.frame.now uuid moment
    frame asks c.in-Ok.rehearsal.archive c.in-Ok.rehearsal.at.now c.in-Ok.rehearsal.frame c.in-Ok.ensures in
    subst (λ u. Rehearses (new_world u frame) (g.R.Read.remaining c.args.reader) c.args.writer.now
    c.carried_out.new.writer (g.W.Write.contents c.args.writer.now) (g.W.Write.contents c.carried_out.new.writer)
    c.carried_out.result) (sym same.0)
    (subst (λ f. Rehearses (new_world c.in-Ok.rehearsal.archive f) (g.R.Read.remaining c.args.reader)
    c.args.writer.now c.carried_out.new.writer (g.W.Write.contents c.args.writer.now)
    (g.W.Write.contents c.carried_out.new.writer) c.carried_out.result) (sym same.1) c.carried_out.ensures)

pub returns-in-Err-clause-carried : goal.returns-in-Err-clause-carried
returns-in-Err-clause-carried g c = λ uuid moment frame asks. absurd
    (asks_read c.args.words.now.archive.now c.args.words.now.at.now c.args.words.now.frame.now uuid moment frame asks
    c.in-Err.what c.in-Err.ensures)
