-- The header, the records of all items, and those of all links.
use Rattle.std.proofs.Common.{◌≡◌, ◌∙◌, Some, map, subst}
use Rattle.std.specs.Io.KnownBytes.{Appends}
use Rattle.csv.specs.Writing.{text_written}
use Rattle.sheet_types.specs.World.{item_moved}
use Rattle.identity_register.proofs.Looking.{looked, sees}
use Rattle.identity_register.proofs.Reaching.{looked_on}
use Rattle.manifest_csv.specs.ByItems.{AreTold, OfPackage}
use Rattle.manifest_csv.specs.Manifests.{item_fields, link_fields, records_text}
use Rattle.manifest_csv.proofs.ItemFacts.{of_package, text_is}
use Rattle.manifest_csv.proofs.by_items.manifest_by_items.Goals as goal

pub returns-in-Ok-end_with : goal.returns-in-Ok-end_with
returns-in-Ok-end_with g c =
    let begun = text_written (λ v. Some v.items) c.in-Ok.writer in
    let itemised = text_written (λ v. Some v.items) c.write_items.new.writer in
    let of_items = OfPackage {X = Unit {0}} (λ p _. c.deref.result.now ≡ map item_moved p.items
    → Appends begun itemised (records_text item_fields p.items)) in
    sees (looked_on of_items (looked (OfPackage (λ p held. AreTold p held.0.items held.1.items)) c.in_ok-items.was
    (of_package _ c.told_holdings.result c.told_holdings.ensures)) c.in_ok-write_items.was
    c.write_items.ensures.stays c.write_items.ensures.text)
    (λ f p t says h.
    let told = h.0 f p says in
    let links = subst (λ ls. Appends itemised (Some c.in-Ok-end_with.text.items) (records_text link_fields ls))
    (c.deref-2.ensures.value ∙ told.1) c.in-Ok-end_with.ensures in
    text_is begun itemised _ _ _ _ c.in-Ok.ensures.text (h.1 f p says (c.deref.ensures.value ∙ told.0)) links)
