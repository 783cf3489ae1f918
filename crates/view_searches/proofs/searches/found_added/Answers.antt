-- What the receipt moved came from no package.
use Rattle.std.proofs.Common.{◌≡◌, ◌∙◌, ◌++◌, ap, rules, subst, sym}
use Rattle.command_names.specs.Searching.{IsFound}
use Rattle.view_searches.specs.Searches.{identities_of}
use Rattle.view_searches.proofs.Sifted.{added_none}
use Rattle.view_searches.proofs.searches.found_added.Goals as goal

pub returns-in-None : goal.returns-in-None
returns-in-None c = λ before it.
    let same : c.as_slice.result.now ≡ c.args.receipt.now.items = search rules in
    subst (λ ids. IsFound c.args.word.now (before ++ ids) c.found_moved.result)
    (ap identities_of same ∙ sym (added_none c.args.receipt.now.source c.args.receipt.now.items c.in-None.is))
    (c.found_moved.ensures before it)
