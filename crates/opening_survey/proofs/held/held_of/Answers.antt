use Rattle.std.proofs.Common.{◌≡◌, ◌∙◌, sym, ap, map}
use Rattle.sheet_types.specs.World.{item_moved, link_moved}
use Rattle.identity_register.proofs.Looking.{sees_so}
use Rattle.opening_survey.proofs.held.held_of.Goals as goal

pub returns : goal.returns
returns g c =
    sees_so (λ f p held. (held.0.items ≡ map item_moved p.items) × (held.1.items ≡ map link_moved p.links))
    c.in_ok-items.was c.tell_all.ensures
    (λ f p t says held heads receipts. record {
      uuid = ap (λ h. h.uuid) heads;
      parent = ap (λ h. h.parent) heads;
      loan = ap (λ h. h.loan) heads;
      items = c.from_vec.ensures ∙ held.0;
      links = c.from_vec-2.ensures ∙ held.1;
      receipts = sym receipts;
    })
