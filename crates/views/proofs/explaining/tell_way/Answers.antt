use Rattle.std.specs.Prelude.{string_bytes}
use Rattle.view_world.specs.Told.{way_answer}
use Rattle.views.specs.Showing.{told_if}
use Rattle.views.proofs.ToldTexts.{opens_told_if, tells_told_if}
use Rattle.views.proofs.explaining.tell_way.Goals as goal

pub returns : goal.returns
returns g c = record {
  found = told_if (λ t. string_bytes t) c.way_text_in-found.result;
  told = tells_told_if g.S.Store (λ t. string_bytes t) (λ w. way_answer c.args.form w c.args.identity)
      c.args.world.now c.way_text_in-found.new.world c.way_text_in-found.result c.way_text_in-found.ensures.told;
  read = c.way_text_in-found.ensures.read;
  opens =
      opens_told_if g.S.Store (λ t. string_bytes t) c.args.world.now c.way_text_in-found.new.world c.way_text_in-found.result
      c.way_text_in-found.ensures.opens;
  shown = c.show_found.ensures;
}
