use Rattle.std.specs.Prelude.{string_bytes}
use Rattle.view_world.specs.Told.{log_text}
use Rattle.views.specs.Showing.{told}
use Rattle.views.proofs.ToldTexts.{looks_told}
use Rattle.views.proofs.logging.log_in.Goals as goal

pub returns : goal.returns
returns g c = record {
  found = told (λ t. string_bytes t) c.log_of-text.result.0;
  looked =
      looks_told g.S.Store (λ t. string_bytes t) (λ w. log_text c.args.form w c.args.excerpt.now) _ _
      c.log_of-text.result.0 c.log_of-text.ensures;
  shown = c.show-ending.ensures;
}
