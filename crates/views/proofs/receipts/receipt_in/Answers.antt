use Rattle.std.specs.Prelude.{string_bytes}
use Rattle.view_world.specs.Told.{receipt_line}
use Rattle.views.specs.Showing.{told_if}
use Rattle.views.proofs.ToldTexts.{opens_told_if, tells_told_if}
use Rattle.views.proofs.receipts.receipt_in.Goals as goal

pub returns : goal.returns
returns g c = record {
  found = told_if (λ t. string_bytes t) c.receipt_line-found.result;
  told = tells_told_if g.S.Store (λ t. string_bytes t) (λ w. receipt_line w c.args.request) c.args.world.now
      c.receipt_line-found.new.world c.receipt_line-found.result c.receipt_line-found.ensures.told;
  read = c.receipt_line-found.ensures.read;
  opens =
      opens_told_if g.S.Store (λ t. string_bytes t) c.args.world.now c.receipt_line-found.new.world c.receipt_line-found.result
      c.receipt_line-found.ensures.opens;
  shown = c.show_found.ensures;
}
