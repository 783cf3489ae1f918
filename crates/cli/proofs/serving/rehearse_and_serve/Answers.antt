-- Words ask for one archive and one desk at most.
use Rattle.std.proofs.Common.{◌≡◌, arith}
use Rattle.cli.proofs.Rehearsing.{one_asked}
use Rattle.cli.proofs.ServedAfter.{asks_served, one_number, same_served}
use Rattle.cli.proofs.serving.rehearse_and_serve.Goals as goal

pub returns-clause-unwritten : goal.returns-clause-unwritten
returns-clause-unwritten g c = λ what unread. absurd (asks_served c.args.words.now.archive.now c.args.words.now.at.now
    c.args.words.now.frame.now c.args.desk.now.port.now c.args.desk.now.count.now c.in-Ok.asked.0.archive
    c.in-Ok.asked.0.at.now c.in-Ok.asked.0.frame c.in-Ok.asked.1.port c.in-Ok.asked.1.count c.in-Ok.ensures.ok
    c.in-Ok.ensures.desk what unread)

pub returns-clause-served : goal.returns-clause-served
returns-clause-served g c = λ uuid moment frame port count asks desk.
    let same = one_asked c.args.words.now.archive.now c.args.words.now.at.now c.args.words.now.frame.now uuid moment
    frame asks c.in-Ok.asked.0.archive c.in-Ok.asked.0.at.now c.in-Ok.asked.0.frame c.in-Ok.ensures.ok in
    let times : count ≡ c.in-Ok.asked.1.count = one_number 1 1000000 c.args.desk.now.count.now count
    c.in-Ok.asked.1.count (omega arith) desk.1 c.in-Ok.ensures.desk.1 in
    same_served uuid c.in-Ok.asked.0.archive frame c.in-Ok.asked.0.frame count c.in-Ok.asked.1.count
    (g.R.Read.remaining c.args.reader) c.args.writer.now c.serve_rehearsal.new.writer
    (g.W.Write.contents c.args.writer.now) (g.W.Write.contents c.serve_rehearsal.new.writer)
    c.serve_rehearsal.result same.0 same.1
    times c.serve_rehearsal.ensures
