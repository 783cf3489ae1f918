use Rattle.std.proofs.Common.{refl}
use Rattle.package_tables.proofs.Looking.{looks_in_order}
use Rattle.package_tables.proofs.FixedStatements.{spatial_ref_sys_known, all_spatial_ref_sys}
use Rattle.package_tables.proofs.FixedStatements.{all_spatial_ref_sys_ranked}
use Rattle.package_tables.proofs.fixed.all_spatial_ref_sys.Goals as goal

pub returns : goal.returns
returns g c =
    let e = c.query_all.ensures in
    looks_in_order spatial_ref_sys_known all_spatial_ref_sys (λ rows. rows.items) _ refl g.S.Store
    g.met.S.Store.shut_if_dirty g.met.S.Store.settled
    c.args.conn.now c.query_all.new.self c.requires c.query_all.result e.ok e.err e.mode e.survives (λ x. refl)
    all_spatial_ref_sys_ranked (λ found. found.items) c.all_of.result c.all_of.ensures.values
