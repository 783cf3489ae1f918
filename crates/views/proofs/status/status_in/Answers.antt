use Rattle.std.specs.Prelude.{string_bytes}
use Rattle.view_world.specs.Told.{status_text}
use Rattle.views.specs.Showing.{told}
use Rattle.views.proofs.ToldTexts.{looks_told}
use Rattle.views.proofs.status.status_in.Goals as goal

pub returns : goal.returns
returns g c = record {
  found = told (λ t. string_bytes t) c.status_of-text.result.0;
  looked =
      looks_told g.S.Store (λ t. string_bytes t) (λ w. status_text c.args.form w c.args.strays) _ _
      c.status_of-text.result.0 c.status_of-text.ensures;
  shown = c.show-ending.ensures;
}
