-- What was found is written.
use Rattle.std.specs.Prelude.{string_bytes}
use Rattle.view_page.specs.Pages.{as_bytes}
use Rattle.view_page.proofs.Through.{tells_bytes}
use Rattle.view_page.proofs.pages.report_over.Goals as goal

pub returns : goal.returns
returns g c = record {
  found = as_bytes (λ t. string_bytes t) c.page_in-found.result;
  told = tells_bytes g.S.Store (λ t. string_bytes t) c.args.names.items c.args.paper
      c.args.world.now c.page_in-found.new.world c.page_in-found.result
      c.page_in-found.ensures.told;
  read = c.page_in-found.ensures.read;
  shown = c.show.ensures;
}
