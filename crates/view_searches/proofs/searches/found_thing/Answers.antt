-- The thing is an item.
use Rattle.std.proofs.Common.{◌∙◌, sym}
use Rattle.view_searches.proofs.Sifted.{item_alone}
use Rattle.view_searches.proofs.searches.found_thing.Goals as goal

pub returns-then-is_item : goal.returns-then-is_item
returns-then-is_item c = λ before it.
    rw (item_alone c.args.thing.now (sym c.is_item.ensures ∙ c.if-is_item.true)) (c.found_with.ensures before it)
