use Rattle.std.specs.Prelude.{string_bytes}
use Rattle.view_world.specs.Told.{way_answer}
use Rattle.views.specs.Showing.{told_if}
use Rattle.views.proofs.ToldTexts.{looks_told_if}
use Rattle.views.proofs.explaining.explain_in.Goals as goal

pub returns : goal.returns
returns g c = record {
  found = told_if (λ t. string_bytes t) c.way_of-found.result.0;
  looked =
      looks_told_if g.S.Store (λ t. string_bytes t) (λ w. way_answer c.args.form w c.args.identity) _ _
      c.way_of-found.result.0 c.way_of-found.ensures;
  shown = c.show_found-ending.ensures;
}
