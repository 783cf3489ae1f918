use Rattle.std.proofs.Common.{refl}
use Rattle.package_tables.specs.Shapes.{contents_shape}
use Rattle.package_tables.specs.Shown.{contents_shown}
use Rattle.package_tables.proofs.FixedStatements.{contents_known, all_contents}
use Rattle.package_schema.proofs.Asking.{those_look}
use Rattle.package_schema.proofs.first_frames.read_contents.Goals as goal

pub returns : goal.returns
returns g c =
    let e = c.query_all.ensures in
    those_look (λ rows. rows.items) _ refl g.S.Store g.met.S.Store.shut_if_dirty g.met.S.Store.settled c.args.conn.now
    c.query_all.new.self c.requires c.query_all.result
    contents_shape contents_known.is.laws contents_shown contents_known.back contents_known.returns all_contents e.ok
    e.err e.mode e.survives (λ found. found.items) c.all_of.result c.all_of.ensures.values
