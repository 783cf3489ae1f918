-- Each part was seen, one after the other.
use Rattle.std.specs.List.{IsDistinct}
use Rattle.store_sql.proofs.Staying.{looks_stays, stays_then}
use Rattle.identity_register.proofs.Looking.{looked, looked_then, fails}
use Rattle.package_items.specs.Tied.{AreUnique, is_same_place}
use Rattle.package_items.specs.Uniques.{AreIdentitiesUnique, ArePairsUnique}
use Rattle.package_items.proofs.Seen.{looks_then}
use Rattle.package_items.proofs.unique.check_unique.Goals as goal

pub returns : goal.returns
returns g c =
    looks_then (λ t u. ArePairsUnique t) (λ t u. AreUnique t) c.see_mappings.result
    (looked_then (λ t u. IsDistinct is_same_place t.tiles)
    (looked (λ t u. AreIdentitiesUnique t) c.in_ok-see_identities.was c.see_identities.ensures)
    c.in_ok-see_places.was c.see_places.ensures) c.see_mappings.ensures
    (λ t u before last. record {
      numbers = before.0.numbers;
      uuids = before.0.uuids;
      places = before.1;
      tiles_media = last.tiles_media;
      rows_media = last.rows_media;
      rows_tiles = last.rows_tiles;
    })

-- a look that failed leaves the store as it was too
pub returns-in_err-see_identities : goal.returns-in_err-see_identities
returns-in_err-see_identities g c = fails c.from_residual.result c.from_residual.ensures.0
    (looks_stays c.see_identities.ensures)

pub returns-in_err-see_places : goal.returns-in_err-see_places
returns-in_err-see_places g c = fails c.from_residual-in_err-see_places.result
    c.from_residual-in_err-see_places.ensures.0 (stays_then (looks_stays c.see_identities.ensures)
    (looks_stays c.see_places.ensures))
