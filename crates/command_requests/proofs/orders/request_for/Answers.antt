-- What was looked up is what the world has.
use Rattle.std.proofs.Common.{◌∙◌, ap, map, sym}
use Rattle.std.specs.Prelude.{flat_map}
use Rattle.command_verbs.specs.Names.{sight}
use Rattle.command_verbs.specs.declared.names.PackageEntry.{PackageEntry}
use Rattle.command_requests.specs.Listing.{items_under}
use Rattle.command_requests.proofs.Asked.{asked_of}
use Rattle.command_requests.proofs.orders.request_for.Goals as goal

pub returns-clause-told : goal.returns-clause-told
returns-clause-told g c = λ clean w stands.
    asked_of w c.as_slice-2.result.now c.as_slice-3.result.now c.args.order.now c.args.bytes.items
    c.request_among.result
    (ap (map sight) c.as_slice-2.ensures.value ∙ c.in_ok-packages.ensures w stands)
    (λ named.
    c.as_slice-3.ensures.value ∙ c.in_ok-items.ensures.told clean w stands named
    ∙ ap (flat_map (λ (p : PackageEntry). items_under w p.uuid))
    (c.as_slice.ensures.value ∙ sym c.as_slice-2.ensures.value))
    c.request_among.ensures
