-- The numbers of bare items are those of the items.
use Rattle.std.proofs.Common.{◌∙◌, ap}
use Rattle.view_export.specs.Numbers.{number_of}
use Rattle.views.proofs.BareItems.{numbers_of_told}
use Rattle.views.proofs.by_items.numbers_told.Goals as goal

pub returns-in-Ok : goal.returns-in-Ok
returns-in-Ok c = λ items all id.
    c.in-Ok.ensures id ∙ ap (λ is. number_of is id) c.as_slice.ensures.value
    ∙ numbers_of_told c.args.told.now c.in_ok-items.items.items items c.in_ok-items.ensures all id
