use Rattle.std.proofs.Common.{refl}
use Rattle.package_tables.specs.Shapes.{tile_shape}
use Rattle.package_tables.specs.Shown.{tile_shown}
use Rattle.package_tables.proofs.TileStatements.{known, all, all_ranked}
use Rattle.package_schema.proofs.Asking.{rows_look}
use Rattle.opening_v1.proofs.package_rows.tile_rows.Goals as goal

pub returns : goal.returns
returns g c =
    let e = c.query_all.ensures in
    rows_look (λ rows. rows.items) _ refl g.S.Store g.met.S.Store.shut_if_dirty g.met.S.Store.settled c.args.conn.now
    c.query_all.new.self c.requires c.query_all.result
    tile_shape known.is.laws tile_shown known.back known.returns all (λ x. refl) all_ranked e.ok e.err e.mode
    e.survives (λ found. found.items) c.all_of.result c.all_of.ensures.values
