-- All that was read, a table at a time.
use Rattle.std.specs.Prelude.{IsPermutation, map}
use Rattle.std.specs.Ordering.{int_cmp, on, then_cmp}
use Rattle.sheet_types.specs.declared.command.Mapping.{Mapping}
use Rattle.sheet_types.specs.declared.command.Mapping.TheVariants.{TilesMedia, RowsMedia, RowsTiles}
use Rattle.store_sql.proofs.Staying.{looks_stays, stays_then}
use Rattle.package_tables.specs.Calls.{AreAll}
use Rattle.package_tables.specs.Mappings.{mapping_rows}
use Rattle.package_tables.specs.Package.{Tables}
use Rattle.package_tables.specs.declared.rows.MappingRow.{MappingRow}
use Rattle.identity_register.proofs.Looking.{looked, looked_then, tells, fails}
use Rattle.std.proofs.Common.{List}
use Rattle.package_items.specs.Ties.{name_key, row_keys, AreKeysOf}
use Rattle.package_items.proofs.tied.read_keys.Goals as goal

-- all rows of a mapping table
abbrev ArePairs : Mapping → Tables → List MappingRow → Type 0
ArePairs m t found = AreAll (then_cmp (on (λ r. r.base_id) int_cmp) (on (λ r. r.related_id) int_cmp))
    (mapping_rows m t) found

pub returns-in_err-tiles_media : goal.returns-in_err-tiles_media
returns-in_err-tiles_media g c =
    fails c.from_residual-in_err-tiles_media.result c.from_residual-in_err-tiles_media.ensures.0
    (stays_then (stays_then (looks_stays c.read_names.ensures) (looks_stays c.read_rows.ensures))
    (looks_stays c.all_pairs.ensures))

pub returns-in_err-rows_media : goal.returns-in_err-rows_media
returns-in_err-rows_media g c =
    fails c.from_residual-in_err-rows_media.result c.from_residual-in_err-rows_media.ensures.0
    (stays_then (stays_then (stays_then (looks_stays c.read_names.ensures) (looks_stays c.read_rows.ensures))
    (looks_stays c.all_pairs.ensures)) (looks_stays c.all_pairs-2.ensures))

pub returns-in_err-rows_tiles : goal.returns-in_err-rows_tiles
returns-in_err-rows_tiles g c =
    fails c.from_residual-in_err-rows_tiles.result c.from_residual-in_err-rows_tiles.ensures.0
    (stays_then (stays_then (stays_then (stays_then (looks_stays c.read_names.ensures)
    (looks_stays c.read_rows.ensures)) (looks_stays c.all_pairs.ensures)) (looks_stays c.all_pairs-2.ensures))
    (looks_stays c.all_pairs-3.ensures))

pub returns : goal.returns
returns g c =
    let names = looked (λ t x. IsPermutation (map name_key t.identities) x.items) c.in_ok-names.was
    c.read_names.ensures in
    let rows = looked_then (λ t x. IsPermutation (row_keys t) x.items) names c.in_ok-rows.was c.read_rows.ensures in
    let first = looked_then (λ t x. ArePairs TilesMedia t x.items) rows c.in_ok-tiles_media.was c.all_pairs.ensures in
    let second = looked_then (λ t x. ArePairs RowsMedia t x.items) first c.in_ok-rows_media.was
    c.all_pairs-2.ensures in
    tells AreKeysOf (looked_then (λ t x. ArePairs RowsTiles t x.items) second c.in_ok-rows_tiles.was
    c.all_pairs-3.ensures)
    (λ t h. record {
      names = h.0.0.0.0;
      rows = h.0.0.0.1;
      tiles_media = h.0.0.1.0;
      rows_media = h.0.1.0;
      rows_tiles = h.1.0;
    })

-- a look that failed leaves the store as it was too
pub returns-in_err-names : goal.returns-in_err-names
returns-in_err-names g c = fails c.from_residual.result c.from_residual.ensures.0 (looks_stays c.read_names.ensures)

pub returns-in_err-rows : goal.returns-in_err-rows
returns-in_err-rows g c = fails c.from_residual-in_err-rows.result c.from_residual-in_err-rows.ensures.0
    (stays_then (looks_stays c.read_names.ensures) (looks_stays c.read_rows.ensures))
