-- Each table was seen, one after the other.
use Rattle.std.specs.List.{IsDistinct}
use Rattle.store_sql.proofs.Staying.{looks_stays, stays_then}
use Rattle.package_tables.specs.Mappings.{mapping_rows}
use Rattle.package_tables.specs.Package.{Tables}
use Rattle.sheet_types.specs.declared.command.Mapping.{Mapping}
use Rattle.sheet_types.specs.declared.command.Mapping.TheVariants.{TilesMedia, RowsMedia, RowsTiles}
use Rattle.identity_register.specs.Numbering.{is_pair}
use Rattle.identity_register.proofs.Looking.{looked, looked_then, fails}
use Rattle.package_items.specs.Uniques.{ArePairsUnique}
use Rattle.package_items.proofs.Seen.{looks_then}
use Rattle.package_items.proofs.unique.see_mappings.Goals as goal

pub returns : goal.returns
returns g c =
    let Apart : Mapping → Tables → Unit {0} → Type 0 = λ m t u. IsDistinct is_pair (mapping_rows m t) in
    looks_then (Apart RowsTiles) (λ t u. ArePairsUnique t) c.see_mapping-3.result
    (looked_then (Apart RowsMedia) (looked (Apart TilesMedia) c.in_ok-see_mapping.was c.see_mapping.ensures)
    c.in_ok-see_mapping-2.was c.see_mapping-2.ensures) c.see_mapping-3.ensures
    (λ t u before last. record { tiles_media = before.0; rows_media = before.1; rows_tiles = last })

-- a look that failed leaves the store as it was too
pub returns-in_err-see_mapping : goal.returns-in_err-see_mapping
returns-in_err-see_mapping g c = fails c.from_residual.result c.from_residual.ensures.0
    (looks_stays c.see_mapping.ensures)

pub returns-in_err-see_mapping-2 : goal.returns-in_err-see_mapping-2
returns-in_err-see_mapping-2 g c = fails c.from_residual-in_err-see_mapping-2.result
    c.from_residual-in_err-see_mapping-2.ensures.0 (stays_then (looks_stays c.see_mapping.ensures)
    (looks_stays c.see_mapping-2.ensures))
