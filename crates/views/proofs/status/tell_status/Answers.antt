use Rattle.std.specs.Prelude.{string_bytes}
use Rattle.view_world.specs.Told.{status_text}
use Rattle.views.specs.Showing.{told}
use Rattle.views.proofs.ToldTexts.{opens_told, tells_told}
use Rattle.views.proofs.status.tell_status.Goals as goal

pub returns : goal.returns
returns g c = record {
  found = told (λ t. string_bytes t) c.status_text_in-text.result;
  told = tells_told g.S.Store (λ t. string_bytes t) (λ w. status_text c.args.form w c.args.strays) c.args.world.now
      c.status_text_in-text.new.world c.status_text_in-text.result c.status_text_in-text.ensures.told;
  read = c.status_text_in-text.ensures.read;
  opens =
      opens_told g.S.Store (λ t. string_bytes t) c.args.world.now c.status_text_in-text.new.world c.status_text_in-text.result
      c.status_text_in-text.ensures.opens;
  shown = c.show.ensures;
}
