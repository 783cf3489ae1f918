use Rattle.sheet_types.specs.declared.command.Mapping.TheVariants.{TilesMedia, RowsMedia}
use Rattle.store_sql.proofs.Transactions.{steps_failed}
use Rattle.package_tables.specs.Listed.{attributes, identities, media, moved, pairs, receipts, tiles}
use Rattle.package_tables.specs.Package.{Tables}
use Rattle.package_copy.proofs.Filling.{fills_first, fills_then}
use Rattle.package_copy.proofs.copies.enter_rows.Goals as goal

pub returns-clause-steps : goal.returns-clause-steps
returns-clause-steps g c =
    let x = c.args.rows.now in
    fills_then moved x.moved.items c.as_slice-8.ensures.value
    (λ (t : Tables). receipts.with_rows x.receipts.items
    (identities.with_rows x.identities.items ((pairs RowsMedia).with_rows x.rows_media.items
    ((pairs TilesMedia).with_rows x.tiles_media.items (attributes.with_rows x.rows.items
    (media.with_rows x.media.items (tiles.with_rows x.tiles.items t))))))) (λ t empty. empty.moved)
    (fills_then receipts x.receipts.items c.as_slice-7.ensures.value
    (λ (t : Tables). identities.with_rows x.identities.items
    ((pairs RowsMedia).with_rows x.rows_media.items ((pairs TilesMedia).with_rows x.tiles_media.items
    (attributes.with_rows x.rows.items (media.with_rows x.media.items (tiles.with_rows x.tiles.items t))))))
    (λ t empty. empty.receipts) (fills_then identities x.identities.items c.as_slice-6.ensures.value
    (λ (t : Tables). (pairs RowsMedia).with_rows x.rows_media.items
    ((pairs TilesMedia).with_rows x.tiles_media.items (attributes.with_rows x.rows.items
    (media.with_rows x.media.items (tiles.with_rows x.tiles.items t))))) (λ t empty. empty.identities)
    (fills_then (pairs RowsMedia) x.rows_media.items c.as_slice-5.ensures.value
    (λ (t : Tables). (pairs TilesMedia).with_rows x.tiles_media.items
    (attributes.with_rows x.rows.items (media.with_rows x.media.items (tiles.with_rows x.tiles.items t))))
    (λ t empty. empty.rows_media) (fills_then (pairs TilesMedia) x.tiles_media.items c.as_slice-4.ensures.value
    (λ (t : Tables). attributes.with_rows x.rows.items (media.with_rows x.media.items
    (tiles.with_rows x.tiles.items t))) (λ t empty. empty.tiles_media)
    (fills_then attributes x.rows.items c.as_slice-3.ensures.value
    (λ (t : Tables). media.with_rows x.media.items (tiles.with_rows x.tiles.items t)) (λ t empty. empty.rows)
    (fills_then media x.media.items c.as_slice-2.ensures.value (λ (t : Tables). tiles.with_rows x.tiles.items t)
    (λ t empty. empty.media) (fills_first tiles x.tiles.items c.as_slice.ensures.value (λ t empty. empty.tiles)
    c.in_ok-enter_all.ensures.steps) c.in_ok-enter_all-2.ensures.steps) c.in_ok-enter_all-3.ensures.steps)
    c.in_ok-enter_pairs.ensures.steps) c.in_ok-enter_pairs-2.ensures.steps) c.in_ok-enter_all-4.ensures.steps)
    c.in_ok-enter_all-5.ensures.steps) c.enter_all-6.ensures.steps

pub returns-in_err-enter_all-clause-steps : goal.returns-in_err-enter_all-clause-steps
returns-in_err-enter_all-clause-steps g c =
    let x = c.args.rows.now in
    steps_failed _ c.from_residual.ensures.0 (fills_first tiles x.tiles.items c.as_slice.ensures.value
    (λ t empty. empty.tiles) c.enter_all.ensures.steps)

pub returns-in_err-enter_all-2-clause-steps : goal.returns-in_err-enter_all-2-clause-steps
returns-in_err-enter_all-2-clause-steps g c =
    let x = c.args.rows.now in
    steps_failed _ c.from_residual-in_err-enter_all-2.ensures.0
    (fills_then media x.media.items c.as_slice-2.ensures.value (λ (t : Tables). tiles.with_rows x.tiles.items t)
    (λ t empty. empty.media) (fills_first tiles x.tiles.items c.as_slice.ensures.value (λ t empty. empty.tiles)
    c.in_ok-enter_all.ensures.steps) c.enter_all-2.ensures.steps)

pub returns-in_err-enter_all-3-clause-steps : goal.returns-in_err-enter_all-3-clause-steps
returns-in_err-enter_all-3-clause-steps g c =
    let x = c.args.rows.now in
    steps_failed _ c.from_residual-in_err-enter_all-3.ensures.0
    (fills_then attributes x.rows.items c.as_slice-3.ensures.value
    (λ (t : Tables). media.with_rows x.media.items (tiles.with_rows x.tiles.items t)) (λ t empty. empty.rows)
    (fills_then media x.media.items c.as_slice-2.ensures.value (λ (t : Tables). tiles.with_rows x.tiles.items t)
    (λ t empty. empty.media) (fills_first tiles x.tiles.items c.as_slice.ensures.value (λ t empty. empty.tiles)
    c.in_ok-enter_all.ensures.steps) c.in_ok-enter_all-2.ensures.steps) c.enter_all-3.ensures.steps)

pub returns-in_err-enter_pairs-clause-steps : goal.returns-in_err-enter_pairs-clause-steps
returns-in_err-enter_pairs-clause-steps g c =
    let x = c.args.rows.now in
    steps_failed _ c.from_residual-in_err-enter_pairs.ensures.0
    (fills_then (pairs TilesMedia) x.tiles_media.items c.as_slice-4.ensures.value
    (λ (t : Tables). attributes.with_rows x.rows.items (media.with_rows x.media.items
    (tiles.with_rows x.tiles.items t))) (λ t empty. empty.tiles_media)
    (fills_then attributes x.rows.items c.as_slice-3.ensures.value
    (λ (t : Tables). media.with_rows x.media.items (tiles.with_rows x.tiles.items t)) (λ t empty. empty.rows)
    (fills_then media x.media.items c.as_slice-2.ensures.value (λ (t : Tables). tiles.with_rows x.tiles.items t)
    (λ t empty. empty.media) (fills_first tiles x.tiles.items c.as_slice.ensures.value (λ t empty. empty.tiles)
    c.in_ok-enter_all.ensures.steps) c.in_ok-enter_all-2.ensures.steps) c.in_ok-enter_all-3.ensures.steps)
    c.enter_pairs.ensures.steps)

pub returns-in_err-enter_pairs-2-clause-steps : goal.returns-in_err-enter_pairs-2-clause-steps
returns-in_err-enter_pairs-2-clause-steps g c =
    let x = c.args.rows.now in
    steps_failed _ c.from_residual-in_err-enter_pairs-2.ensures.0
    (fills_then (pairs RowsMedia) x.rows_media.items c.as_slice-5.ensures.value
    (λ (t : Tables). (pairs TilesMedia).with_rows x.tiles_media.items
    (attributes.with_rows x.rows.items (media.with_rows x.media.items (tiles.with_rows x.tiles.items t))))
    (λ t empty. empty.rows_media) (fills_then (pairs TilesMedia) x.tiles_media.items c.as_slice-4.ensures.value
    (λ (t : Tables). attributes.with_rows x.rows.items (media.with_rows x.media.items
    (tiles.with_rows x.tiles.items t))) (λ t empty. empty.tiles_media)
    (fills_then attributes x.rows.items c.as_slice-3.ensures.value
    (λ (t : Tables). media.with_rows x.media.items (tiles.with_rows x.tiles.items t)) (λ t empty. empty.rows)
    (fills_then media x.media.items c.as_slice-2.ensures.value (λ (t : Tables). tiles.with_rows x.tiles.items t)
    (λ t empty. empty.media) (fills_first tiles x.tiles.items c.as_slice.ensures.value (λ t empty. empty.tiles)
    c.in_ok-enter_all.ensures.steps) c.in_ok-enter_all-2.ensures.steps) c.in_ok-enter_all-3.ensures.steps)
    c.in_ok-enter_pairs.ensures.steps) c.enter_pairs-2.ensures.steps)

pub returns-in_err-enter_all-4-clause-steps : goal.returns-in_err-enter_all-4-clause-steps
returns-in_err-enter_all-4-clause-steps g c =
    let x = c.args.rows.now in
    steps_failed _ c.from_residual-in_err-enter_all-4.ensures.0
    (fills_then identities x.identities.items c.as_slice-6.ensures.value
    (λ (t : Tables). (pairs RowsMedia).with_rows x.rows_media.items
    ((pairs TilesMedia).with_rows x.tiles_media.items (attributes.with_rows x.rows.items
    (media.with_rows x.media.items (tiles.with_rows x.tiles.items t))))) (λ t empty. empty.identities)
    (fills_then (pairs RowsMedia) x.rows_media.items c.as_slice-5.ensures.value
    (λ (t : Tables). (pairs TilesMedia).with_rows x.tiles_media.items
    (attributes.with_rows x.rows.items (media.with_rows x.media.items (tiles.with_rows x.tiles.items t))))
    (λ t empty. empty.rows_media) (fills_then (pairs TilesMedia) x.tiles_media.items c.as_slice-4.ensures.value
    (λ (t : Tables). attributes.with_rows x.rows.items (media.with_rows x.media.items
    (tiles.with_rows x.tiles.items t))) (λ t empty. empty.tiles_media)
    (fills_then attributes x.rows.items c.as_slice-3.ensures.value
    (λ (t : Tables). media.with_rows x.media.items (tiles.with_rows x.tiles.items t)) (λ t empty. empty.rows)
    (fills_then media x.media.items c.as_slice-2.ensures.value (λ (t : Tables). tiles.with_rows x.tiles.items t)
    (λ t empty. empty.media) (fills_first tiles x.tiles.items c.as_slice.ensures.value (λ t empty. empty.tiles)
    c.in_ok-enter_all.ensures.steps) c.in_ok-enter_all-2.ensures.steps) c.in_ok-enter_all-3.ensures.steps)
    c.in_ok-enter_pairs.ensures.steps) c.in_ok-enter_pairs-2.ensures.steps) c.enter_all-4.ensures.steps)

pub returns-in_err-enter_all-5-clause-steps : goal.returns-in_err-enter_all-5-clause-steps
returns-in_err-enter_all-5-clause-steps g c =
    let x = c.args.rows.now in
    steps_failed _ c.from_residual-in_err-enter_all-5.ensures.0
    (fills_then receipts x.receipts.items c.as_slice-7.ensures.value
    (λ (t : Tables). identities.with_rows x.identities.items
    ((pairs RowsMedia).with_rows x.rows_media.items ((pairs TilesMedia).with_rows x.tiles_media.items
    (attributes.with_rows x.rows.items (media.with_rows x.media.items (tiles.with_rows x.tiles.items t))))))
    (λ t empty. empty.receipts) (fills_then identities x.identities.items c.as_slice-6.ensures.value
    (λ (t : Tables). (pairs RowsMedia).with_rows x.rows_media.items
    ((pairs TilesMedia).with_rows x.tiles_media.items (attributes.with_rows x.rows.items
    (media.with_rows x.media.items (tiles.with_rows x.tiles.items t))))) (λ t empty. empty.identities)
    (fills_then (pairs RowsMedia) x.rows_media.items c.as_slice-5.ensures.value
    (λ (t : Tables). (pairs TilesMedia).with_rows x.tiles_media.items
    (attributes.with_rows x.rows.items (media.with_rows x.media.items (tiles.with_rows x.tiles.items t))))
    (λ t empty. empty.rows_media) (fills_then (pairs TilesMedia) x.tiles_media.items c.as_slice-4.ensures.value
    (λ (t : Tables). attributes.with_rows x.rows.items (media.with_rows x.media.items
    (tiles.with_rows x.tiles.items t))) (λ t empty. empty.tiles_media)
    (fills_then attributes x.rows.items c.as_slice-3.ensures.value
    (λ (t : Tables). media.with_rows x.media.items (tiles.with_rows x.tiles.items t)) (λ t empty. empty.rows)
    (fills_then media x.media.items c.as_slice-2.ensures.value (λ (t : Tables). tiles.with_rows x.tiles.items t)
    (λ t empty. empty.media) (fills_first tiles x.tiles.items c.as_slice.ensures.value (λ t empty. empty.tiles)
    c.in_ok-enter_all.ensures.steps) c.in_ok-enter_all-2.ensures.steps) c.in_ok-enter_all-3.ensures.steps)
    c.in_ok-enter_pairs.ensures.steps) c.in_ok-enter_pairs-2.ensures.steps) c.in_ok-enter_all-4.ensures.steps)
    c.enter_all-5.ensures.steps)
