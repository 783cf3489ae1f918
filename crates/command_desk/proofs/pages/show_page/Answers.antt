-- The world was only read.
use Rattle.desk_http.proofs.ServedBy.{told_by}
use Rattle.command_desk.proofs.pages.show_page.Goals as goal

pub returns-clause-served : goal.returns-clause-served
returns-clause-served g c =
    told_by g.S.Store c.args.world.now c.report_over.new.world c.report_over.ensures.read
