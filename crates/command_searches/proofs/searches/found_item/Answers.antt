-- The packages that were searched are those that live.
use Rattle.std.proofs.Common.{◌∙◌, ap, subst}
use Rattle.std.specs.Prelude.{flat_map}
use Rattle.command_names.specs.Searching.{IsFound}
use Rattle.command_verbs.specs.declared.names.PackageEntry.{PackageEntry}
use Rattle.command_searches.specs.Searches.{identities_under}
use Rattle.command_searches.proofs.Walked.{all_identities}
use Rattle.command_searches.proofs.searches.found_item.Goals as goal

pub returns-clause-told : goal.returns-clause-told
returns-clause-told g c = λ clean w stands.
    subst (λ ids. IsFound c.args.word.now ids c.in_ok-found.found)
    (ap (flat_map (λ (p : PackageEntry). identities_under w p.uuid)) c.as_slice.ensures.value
    ∙ all_identities w c.in_ok-packages.packages.items (c.in_ok-packages.ensures w stands))
    (c.in_ok-found.ensures.told clean w stands)
