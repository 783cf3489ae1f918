-- What was told of links are the links.
use Rattle.std.proofs.Common.{◌≡◌, ◌∙◌}
use Rattle.std.specs.Prelude.{map}
use Rattle.store_sql.proofs.Staying.{looks_stays}
use Rattle.sheet_types.specs.World.{item_moved, link_moved}
use Rattle.identity_register.proofs.Looking.{sees_so, fails}
use Rattle.manifest_csv.proofs.ItemFacts.{links_told}
use Rattle.manifest_csv.proofs.by_items.told_holdings.Goals as goal

pub returns-in_err-links : goal.returns-in_err-links
returns-in_err-links g c = fails c.from_residual-in_err-links.result c.from_residual-in_err-links.ensures.0
    (looks_stays c.tell_all.ensures)

pub returns : goal.returns
returns g c =
    sees_so (λ f p told. (told.0.items ≡ map item_moved p.items) × (told.1.items ≡ map link_moved p.links))
    c.in_ok-items.was c.tell_all.ensures
    (λ f p t says h. (
      h.0,
      links_told c.deref.result.now c.in_ok-links.links.items p.links c.in_ok-links.ensures
          (c.deref.ensures.value ∙ h.1),
    ))
