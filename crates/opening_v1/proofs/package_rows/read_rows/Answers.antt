use Rattle.std.proofs.Common.{pos}
use Rattle.std.proofs.lemmas.List.Sorted.{IsPermutation-trans}
use Rattle.std.specs.Ordering.{on, then_cmp, int_cmp}
use Rattle.store_sql.proofs.Staying.{looks_stays, stays_then}
use Rattle.package_tables.specs.Calls.{AreAll}
use Rattle.package_tables.specs.Damaged.{AreFormedAt}
use Rattle.package_tables.specs.Package.{tables_of}
use Rattle.package_tables.specs.Shape.{rows_of, IsFormed}
use Rattle.package_tables.specs.Shapes.{attribute_shape, identity_shape, medium_shape, moved_shape, receipt_shape}
use Rattle.package_tables.specs.Shapes.{rows_media_shape, tile_shape, tiles_media_shape}
use Rattle.package_schema.proofs.Seeing.{seen, seen_then, sees, fails}
use Rattle.opening_v1.specs.Copies.{AreRowsOf}
use Rattle.opening_v1.proofs.package_rows.read_rows.Goals as goal

pub returns : goal.returns
returns g c =
    let tiles = seen (λ db found. IsFormed tile_shape db → AreAll (on (λ x. x.id) int_cmp) (rows_of tile_shape db)
    found.items) c.in_ok-tiles.was c.tile_rows.ensures in
    let media = seen_then (λ db found. IsFormed medium_shape db
    → AreAll (on (λ x. x.id) int_cmp) (rows_of medium_shape db) found.items) tiles c.in_ok-media.was
    c.medium_rows.ensures in
    let rows = seen_then (λ db found. IsFormed attribute_shape db
    → AreAll (on (λ x. x.id) int_cmp) (rows_of attribute_shape db) found.items) media c.in_ok-rows.was
    c.attribute_rows.ensures in
    let tiles_media = seen_then (λ db found. IsFormed tiles_media_shape db
    → AreAll (then_cmp (on (λ x. x.base_id) int_cmp) (on (λ x. x.related_id) int_cmp))
    (rows_of tiles_media_shape db) found.items) rows c.in_ok-tiles_media.was c.tiles_media_rows.ensures in
    let rows_media = seen_then (λ db found. IsFormed rows_media_shape db
    → AreAll (then_cmp (on (λ x. x.base_id) int_cmp) (on (λ x. x.related_id) int_cmp))
    (rows_of rows_media_shape db) found.items) tiles_media c.in_ok-rows_media.was c.rows_media_rows.ensures in
    let identities = seen_then (λ db found. IsFormed identity_shape db
    → AreAll (then_cmp (on (λ x. x.kind) int_cmp) (on (λ x. x.local_id) int_cmp)) (rows_of identity_shape db)
    found.items) rows_media c.in_ok-identities.was c.identity_rows.ensures in
    let receipts = seen_then (λ db found. IsFormed receipt_shape db
    → AreAll (on (λ x. x.seq) int_cmp) (rows_of receipt_shape db) found.items) identities c.in_ok-receipts.was
    c.receipt_rows.ensures in
    let moved = seen_then (λ db found. IsFormed moved_shape db
    → AreAll (on (λ x. x.seq) int_cmp) (rows_of moved_shape db) found.items) receipts c.in_ok-moved.was
    c.moved_rows.ensures in
    sees (λ db found. AreFormedAt (pos 1) db → AreRowsOf (tables_of db) found) moved
    (λ db told formed. record {
      tiles = (told.0.0.0.0.0.0.0 formed.tiles).0;
      media = (told.0.0.0.0.0.0.1 formed.media).0;
      rows = (told.0.0.0.0.0.1 formed.rows).0;
      tiles_media = (told.0.0.0.0.1 formed.tiles_media).0;
      rows_media = (told.0.0.0.1 formed.rows_media).0;
      identities = (told.0.0.1 formed.identities).0;
      receipts = (told.0.1 formed.receipts).0;
      moved =
          IsPermutation-trans (rows_of moved_shape db) c.in_ok-moved.moved.items c.in_turn.result.items
          (told.1 formed.moved).0 c.in_turn.ensures;
    })

-- a look that failed leaves the store as it was too
pub returns-in_err-rows : goal.returns-in_err-rows
returns-in_err-rows g c = fails _ c.from_residual-in_err-rows.ensures.0
    (stays_then (stays_then (looks_stays c.tile_rows.ensures) (looks_stays c.medium_rows.ensures))
    (looks_stays c.attribute_rows.ensures))

pub returns-in_err-tiles_media : goal.returns-in_err-tiles_media
returns-in_err-tiles_media g c = fails _ c.from_residual-in_err-tiles_media.ensures.0
    (stays_then (stays_then (stays_then (looks_stays c.tile_rows.ensures) (looks_stays c.medium_rows.ensures))
    (looks_stays c.attribute_rows.ensures)) (looks_stays c.tiles_media_rows.ensures))

pub returns-in_err-rows_media : goal.returns-in_err-rows_media
returns-in_err-rows_media g c = fails _ c.from_residual-in_err-rows_media.ensures.0
    (stays_then (stays_then (stays_then (stays_then (looks_stays c.tile_rows.ensures)
    (looks_stays c.medium_rows.ensures)) (looks_stays c.attribute_rows.ensures))
    (looks_stays c.tiles_media_rows.ensures)) (looks_stays c.rows_media_rows.ensures))

pub returns-in_err-identities : goal.returns-in_err-identities
returns-in_err-identities g c = fails _ c.from_residual-in_err-identities.ensures.0
    (stays_then (stays_then (stays_then (stays_then (stays_then (looks_stays c.tile_rows.ensures)
    (looks_stays c.medium_rows.ensures)) (looks_stays c.attribute_rows.ensures))
    (looks_stays c.tiles_media_rows.ensures)) (looks_stays c.rows_media_rows.ensures))
    (looks_stays c.identity_rows.ensures))

pub returns-in_err-receipts : goal.returns-in_err-receipts
returns-in_err-receipts g c = fails _ c.from_residual-in_err-receipts.ensures.0
    (stays_then (stays_then (stays_then (stays_then (stays_then
    (stays_then (looks_stays c.tile_rows.ensures) (looks_stays c.medium_rows.ensures))
    (looks_stays c.attribute_rows.ensures)) (looks_stays c.tiles_media_rows.ensures))
    (looks_stays c.rows_media_rows.ensures)) (looks_stays c.identity_rows.ensures))
    (looks_stays c.receipt_rows.ensures))

pub returns-in_err-moved : goal.returns-in_err-moved
returns-in_err-moved g c = fails _ c.from_residual-in_err-moved.ensures.0
    (stays_then (stays_then (stays_then (stays_then (stays_then
    (stays_then (stays_then (looks_stays c.tile_rows.ensures) (looks_stays c.medium_rows.ensures))
    (looks_stays c.attribute_rows.ensures)) (looks_stays c.tiles_media_rows.ensures))
    (looks_stays c.rows_media_rows.ensures)) (looks_stays c.identity_rows.ensures))
    (looks_stays c.receipt_rows.ensures)) (looks_stays c.moved_rows.ensures))
