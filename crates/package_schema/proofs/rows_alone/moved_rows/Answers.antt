use Rattle.std.proofs.Common.{refl}
use Rattle.package_tables.specs.Shapes.{moved_shape}
use Rattle.package_tables.specs.Shown.{moved_shown}
use Rattle.package_tables.proofs.MovedStatements.{moved_known, all_moved, all_moved_ranked}
use Rattle.package_schema.proofs.Asking.{rows_look}
use Rattle.package_schema.proofs.rows_alone.moved_rows.Goals as goal

pub returns : goal.returns
returns g c =
    let e = c.query_all.ensures in
    rows_look (λ rows. rows.items) _ refl g.S.Store g.met.S.Store.shut_if_dirty g.met.S.Store.settled c.args.conn.now
    c.query_all.new.self c.requires c.query_all.result
    moved_shape moved_known.is.laws moved_shown moved_known.back moved_known.returns all_moved (λ x. refl)
    all_moved_ranked e.ok e.err e.mode e.survives (λ found. found.items) c.all_of.result c.all_of.ensures.values
