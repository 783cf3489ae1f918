use Rattle.field_lists.proofs.entries.media_of.Goals as goal

pub returns-in_default-3-clause-none : goal.returns-in_default-3-clause-none
returns-in_default-3-clause-none c =
    let none = rw c.in_default-3.is at c.in_ok-data.ensures.none in
    λ number id content_type bytes medium. none bytes medium.1.1.2
