-- The world ends where it was looked at.
use Rattle.view_page.proofs.Through.{looks_through}
use Rattle.view_page.proofs.pages.report_in.Goals as goal

pub returns : goal.returns
returns g c =
    let over = c.report_over-ending.ensures in
    record {
      found = over.found;
      looked = looks_through g.S.Store c.args.world c.report_over-ending.new.world _ over.found
          over.read c.into_stores.ensures over.told;
      shown = over.shown;
    }
