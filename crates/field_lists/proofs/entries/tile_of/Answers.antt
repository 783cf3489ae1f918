use Rattle.field_lists.proofs.entries.tile_of.Goals as goal

pub returns-in_default-2-clause-none : goal.returns-in_default-2-clause-none
returns-in_default-2-clause-none c =
    let none = rw c.in_default-2.is at c.in_ok-data.ensures.none in
    λ number zoom column line id bytes tile. none bytes tile.1.1.4
