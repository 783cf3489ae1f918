-- The links that were made of all rows of a mapping table are its links.
use Rattle.std.proofs.Common.{subst}
use Rattle.std.specs.List.{AllZip}
use Rattle.std.specs.Ordering.{int_cmp, on, then_cmp}
use Rattle.package_tables.specs.Calls.{AreAll}
use Rattle.package_tables.specs.Mappings.{mapping_rows}
use Rattle.identity_register.specs.Gathered.{IsLinkOf, AreLinksIn}
use Rattle.identity_register.proofs.Looking.{looked}
use Rattle.identity_register.proofs.Gathering.{tells_if}
use Rattle.identity_register.proofs.whole.links_in.Goals as goal

pub returns : goal.returns
returns g c =
    let m = c.args.mapping in
    let rows = c.args.rows.now in
    tells_if (λ t links. AreLinksIn m rows t links.items) c.links_of.result
    (looked (λ t found. AreAll (then_cmp (on (λ x. x.base_id) int_cmp) (on (λ x. x.related_id) int_cmp))
    (mapping_rows m t) found.items) c.in_ok-pairs.was c.all_pairs.ensures)
    (λ x e t h. (
      c.in_ok-pairs.pairs.items,
      h.0,
      subst (λ l. AllZip (IsLinkOf m rows) l x.items) c.deref.ensures.value
          (rw e at c.links_of.ensures),
    ))
