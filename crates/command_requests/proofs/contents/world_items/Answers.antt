-- The items of the packages that were listed are those of all that live.
use Rattle.std.proofs.Common.{◌∙◌, ap}
use Rattle.std.specs.Prelude.{flat_map}
use Rattle.command_verbs.specs.declared.names.PackageEntry.{PackageEntry}
use Rattle.command_requests.specs.Listing.{items_under}
use Rattle.command_requests.proofs.Listed.{all_items}
use Rattle.command_requests.proofs.contents.world_items.Goals as goal

pub returns-clause-told : goal.returns-clause-told
returns-clause-told g c = λ clean w stands.
    all_items w c.in_ok-packages.packages.items c.in_ok-items.items.items (c.in_ok-packages.ensures w stands)
    (c.in_ok-items.ensures.told clean w stands ∙ ap (flat_map (λ (p : PackageEntry). items_under w p.uuid))
    c.as_slice.ensures.value)
