use Rattle.std.specs.Prelude.{string_bytes}
use Rattle.view_world.specs.Told.{log_text}
use Rattle.views.specs.Showing.{told}
use Rattle.views.proofs.ToldTexts.{opens_told, tells_told}
use Rattle.views.proofs.logging.tell_log.Goals as goal

pub returns : goal.returns
returns g c = record {
  found = told (λ t. string_bytes t) c.log_text_in-text.result;
  told = tells_told g.S.Store (λ t. string_bytes t) (λ w. log_text c.args.form w c.args.excerpt.now) c.args.world.now
      c.log_text_in-text.new.world c.log_text_in-text.result c.log_text_in-text.ensures.told;
  read = c.log_text_in-text.ensures.read;
  opens =
      opens_told g.S.Store (λ t. string_bytes t) c.args.world.now c.log_text_in-text.new.world c.log_text_in-text.result
      c.log_text_in-text.ensures.opens;
  shown = c.show.ensures;
}
