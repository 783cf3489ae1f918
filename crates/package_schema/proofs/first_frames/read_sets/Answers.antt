use Rattle.std.proofs.Common.{refl}
use Rattle.package_tables.specs.Shapes.{tile_matrix_set_shape}
use Rattle.package_tables.specs.Shown.{tile_matrix_set_shown}
use Rattle.package_tables.proofs.FixedStatements.{tile_matrix_set_known, all_tile_matrix_sets}
use Rattle.package_schema.proofs.Asking.{those_look}
use Rattle.package_schema.proofs.first_frames.read_sets.Goals as goal

pub returns : goal.returns
returns g c =
    let e = c.query_all.ensures in
    those_look (λ rows. rows.items) _ refl g.S.Store g.met.S.Store.shut_if_dirty g.met.S.Store.settled c.args.conn.now
    c.query_all.new.self c.requires c.query_all.result
    tile_matrix_set_shape tile_matrix_set_known.is.laws tile_matrix_set_shown tile_matrix_set_known.back
    tile_matrix_set_known.returns all_tile_matrix_sets e.ok e.err e.mode e.survives (λ found. found.items)
    c.all_of.result c.all_of.ensures.values
