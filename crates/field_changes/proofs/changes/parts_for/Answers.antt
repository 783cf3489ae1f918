-- Each part is that of the names; or the links have no ends or one of them twice, or an item is there twice.
use Rattle.std.proofs.Common.{◌≡◌, ◌∙◌, ap, subst, cond, [], map}
use Rattle.std.specs.Prelude.{IsPermutation, bytes_eq}
use Rattle.std.specs.List.{AllZip, IsDistinct}
use Rattle.sheet_types.specs.Cut.{identities}
use Rattle.sheet_types.specs.World.{item_key}
use Rattle.field_changes.specs.Naming.{names_of}
use Rattle.field_changes.specs.Parts.{gone, new_items, IsLinkOf, beyond}
use Rattle.field_changes.proofs.Unlisted.{without_ends, one_twice}
use Rattle.field_changes.proofs.changes.parts_for.Goals as goal

pub returns-clause-parts : goal.returns-clause-parts
returns-clause-parts c =
    let p = c.args.asker.now.«package» in
    let n = c.args.asker.now.ticket in
    let items = c.args.holdings.now.items.now in
    let linked = c.args.holdings.now.links.now in
    let file = c.args.file.items in
    let links = c.in-Some.file_links.items in
    let names : c.in_ok-names.names.items ≡ names_of p n items file =
    c.in_ok-names.ensures ∙ ap (names_of p n items) c.as_slice.ensures.value in
    record {
      file_links = links;
      named = subst (λ l. AllZip (IsLinkOf l) c.args.held.now links) (c.as_slice-2.ensures.value ∙ names)
          (rw c.in-Some.is at c.in_ok-found.ensures.some);
      unlinks = c.in_ok-unlinks.ensures ∙ ap (λ l. cond c.args.more [] (beyond l linked)) c.as_slice-3.ensures.value;
      deletes = c.in_ok-deletes.ensures ∙ ap (λ l. cond c.args.more [] (identities (gone l items)))
          (c.as_slice-4.ensures.value ∙ names);
      adds = subst (λ l. IsPermutation l c.in-Ok.adds.items)
          (c.in_ok-unsorted.ensures ∙ ap (λ l. new_items l file) (c.as_slice-5.ensures.value ∙ names))
          c.in-Ok.ensures.same;
      adds_order = c.in-Ok.ensures.order;
      links = subst (λ l. IsPermutation l c.in-Ok-links_in_order.links.items)
          (c.in_ok-left.ensures ∙ ap (beyond linked) c.as_slice-6.ensures.value) c.in-Ok-links_in_order.ensures.same;
      links_order = c.in-Ok-links_in_order.ensures.order;
    }

-- an end of a link is no item of the file
pub returns-in_default-clause-why : goal.returns-in_default-clause-why
returns-in_default-clause-why c =
    let p = c.args.asker.now.«package» in
    let n = c.args.asker.now.ticket in
    let items = c.args.holdings.now.items.now in
    let names : c.in_ok-names.names.items ≡ names_of p n items c.args.file.items =
    c.in_ok-names.ensures ∙ ap (names_of p n items) c.as_slice.ensures.value in
    without_ends c.as_slice-2.result.now (names_of p n items c.args.file.items) c.args.held.now
    c.args.holdings.now.links.now (c.as_slice-2.ensures.value ∙ names) (rw c.in_default.is at c.in_ok-found.ensures.none)

-- two new items have one identity
pub returns-in_default-items_in_order-clause-why : goal.returns-in_default-items_in_order-clause-why
returns-in_default-items_in_order-clause-why c =
    let p = c.args.asker.now.«package» in
    let n = c.args.asker.now.ticket in
    let items = c.args.holdings.now.items.now in
    let file = c.args.file.items in
    let names : c.in_ok-names.names.items ≡ names_of p n items file =
    c.in_ok-names.ensures ∙ ap (names_of p n items) c.as_slice.ensures.value in
    subst (λ l. IsDistinct bytes_eq (map item_key l) → ⊥)
    (c.in_ok-unsorted.ensures ∙ ap (λ l. new_items l file) (c.as_slice-5.ensures.value ∙ names))
    c.in_default-items_in_order.ensures.twice

-- a link that the package has not is there twice
pub returns-in_default-links_in_order-clause-why : goal.returns-in_default-links_in_order-clause-why
returns-in_default-links_in_order-clause-why c =
    let p = c.args.asker.now.«package» in
    let n = c.args.asker.now.ticket in
    let items = c.args.holdings.now.items.now in
    let links = c.in-Some.file_links.items in
    let names : c.in_ok-names.names.items ≡ names_of p n items c.args.file.items =
    c.in_ok-names.ensures ∙ ap (names_of p n items) c.as_slice.ensures.value in
    one_twice (names_of p n items c.args.file.items) c.args.held.now c.args.holdings.now.links.now links
    c.in_ok-left.left.items
    (subst (λ l. AllZip (IsLinkOf l) c.args.held.now links) (c.as_slice-2.ensures.value ∙ names)
    (rw c.in-Some.is at c.in_ok-found.ensures.some))
    (c.in_ok-left.ensures ∙ ap (beyond c.args.holdings.now.links.now) c.as_slice-6.ensures.value)
    c.in_default-links_in_order.ensures.twice
