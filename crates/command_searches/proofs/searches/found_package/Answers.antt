-- The packages that were listed are those that live.
use Rattle.std.proofs.Common.{[], ◌∙◌, ap, map, subst}
use Rattle.sheet_types.specs.Answers.{PackageSight as ModelSight}
use Rattle.command_names.specs.Searching.{IsFound}
use Rattle.command_verbs.specs.declared.names.PackageEntry.{PackageEntry}
use Rattle.command_searches.proofs.Walked.{uuids_listed}
use Rattle.command_searches.proofs.searches.found_package.Goals as goal

pub returns : goal.returns
returns g c = λ w stands.
    subst (λ ids. IsFound c.args.word.now ids c.found_named.result)
    (ap (map (λ (p : PackageEntry). p.uuid)) c.as_slice.ensures.value ∙ uuids_listed c.in_ok-packages.packages.items
    ∙ ap (map (λ (s : ModelSight). s.uuid)) (c.in_ok-packages.ensures w stands))
    (c.found_named.ensures [] (c.nothing.ensures c.args.word.now))
