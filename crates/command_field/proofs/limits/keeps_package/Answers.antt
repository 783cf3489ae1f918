-- Each limit is kept.
use Rattle.sheet_types.specs.declared.receipt.MovedKind.TheVariants.{TileItem, MediaItem, RowItem}
use Rattle.command_field.proofs.Counts.{four, kept_kind}
use Rattle.command_field.proofs.limits.keeps_package.Goals as goal

pub returns : goal.returns
returns c =
    let items = c.args.holdings.now.items.now in
    let qs = c.args.requests.now in
    let gone = c.in_ok-gone.gone in
    four c.keeps_kind-tiles.result c.keeps_kind-media.result c.keeps_kind-rows.result c.keeps_links-links.result _ _ _ _
    (kept_kind TileItem qs items gone c.keeps_kind-tiles.result c.in_ok-gone.ensures c.keeps_kind-tiles.ensures)
    (kept_kind MediaItem qs items gone c.keeps_kind-media.result c.in_ok-gone.ensures c.keeps_kind-media.ensures)
    (kept_kind RowItem qs items gone c.keeps_kind-rows.result c.in_ok-gone.ensures c.keeps_kind-rows.ensures)
    c.keeps_links-links.ensures
