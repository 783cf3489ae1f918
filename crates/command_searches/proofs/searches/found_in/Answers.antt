-- The identities that were searched are those of the package.
use Rattle.std.proofs.Common.{◌≡◌, ◌++◌, Some, rules, subst}
use Rattle.sheet_types.specs.Answers.{holdings_answer}
use Rattle.command_names.specs.Searching.{IsFound}
use Rattle.command_searches.proofs.Walked.{identities_found}
use Rattle.command_searches.proofs.searches.found_in.Goals as goal

pub returns-clause-told : goal.returns-clause-told
returns-clause-told g c = λ clean w stands before it.
    let told = c.in_ok-items.ensures.told clean w stands in
    let found : Some (c.as_slice.result.now, c.in-Some._links.items) ≡ holdings_answer w c.args.holder =
    search rules in
    subst (λ ids. IsFound c.args.word.now (before ++ ids) c.found_among.result)
    (identities_found w c.args.holder c.as_slice.result.now c.in-Some._links.items found)
    (c.found_among.ensures before it)
