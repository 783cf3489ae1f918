-- The text of all items and all links.
use Rattle.std.proofs.Common.{◌≡◌, ◌∙◌, ap}
use Rattle.identity_register.proofs.Looking.{sees_so}
use Rattle.manifest_csv.specs.Manifests.{manifest_of}
use Rattle.manifest_csv.proofs.by_items.manifest_at_once.Goals as goal

pub returns-in-Ok : goal.returns-in-Ok
returns-in-Ok g c =
    sees_so (λ f p held. (held.0.items ≡ p.items) × (held.1.items ≡ p.links)) c.in_ok-items.was c.holdings.ensures
    (λ f p t says h. c.in-Ok.ensures ∙ ap (λ is. manifest_of is c.as_slice-2.result.now)
    (c.as_slice.ensures.value ∙ h.0) ∙ ap (manifest_of p.items) (c.as_slice-2.ensures.value ∙ h.1))
