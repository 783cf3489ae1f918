-- The items that were found are those of the package.
use Rattle.std.proofs.Common.{◌≡◌, Some, rules}
use Rattle.sheet_types.specs.Answers.{holdings_answer}
use Rattle.command_requests.proofs.Found.{data_held}
use Rattle.command_requests.proofs.contents.data_in.Goals as goal

pub returns-clause-told : goal.returns-clause-told
returns-clause-told g c = λ clean.
    data_held g.S.Store c.args.world.now c.args.entry.now c.as_slice.result.now c.in-Some._links.items (λ v. v.items)
    c.data_among.result
    (λ w stands.
    let told = c.in_ok-items.ensures.told clean w stands in
    let found : Some (c.as_slice.result.now, c.in-Some._links.items) ≡ holdings_answer w c.args.entry.now.holder =
    search rules in
    found)
    c.data_among.ensures
