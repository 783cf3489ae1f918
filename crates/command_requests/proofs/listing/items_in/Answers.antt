-- The entries of the items that were found.
use Rattle.std.proofs.Common.{◌≡◌, Some, rules}
use Rattle.sheet_types.specs.Answers.{holdings_answer}
use Rattle.world.specs.Worlds.{StandsFor}
use Rattle.command_requests.proofs.Asked.{items_listed}
use Rattle.command_requests.proofs.listing.items_in.Goals as goal

pub returns-clause-told : goal.returns-clause-told
returns-clause-told g c = λ clean.
    items_listed (StandsFor g.S.Store c.args.world.now) (λ v. v.items) c.args.holder c.as_slice.result.now
    c.in-Some._links.items c.items_of.result
    (λ w stands.
    let told = c.in_ok-items.ensures.told clean w stands in
    let found : Some (c.as_slice.result.now, c.in-Some._links.items) ≡ holdings_answer w c.args.holder =
    search rules in
    found)
    c.items_of.ensures
