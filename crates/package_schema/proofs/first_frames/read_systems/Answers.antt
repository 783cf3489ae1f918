use Rattle.std.proofs.Common.{refl}
use Rattle.package_tables.specs.Shapes.{spatial_ref_sys_shape}
use Rattle.package_tables.specs.Shown.{spatial_ref_sys_shown}
use Rattle.package_tables.proofs.FixedStatements.{spatial_ref_sys_known, all_spatial_ref_sys}
use Rattle.package_tables.proofs.FixedStatements.{all_spatial_ref_sys_ranked}
use Rattle.package_schema.proofs.Asking.{rows_look}
use Rattle.package_schema.proofs.first_frames.read_systems.Goals as goal

pub returns : goal.returns
returns g c =
    let e = c.query_all.ensures in
    rows_look (λ rows. rows.items) _ refl g.S.Store g.met.S.Store.shut_if_dirty g.met.S.Store.settled c.args.conn.now
    c.query_all.new.self c.requires c.query_all.result
    spatial_ref_sys_shape spatial_ref_sys_known.is.laws spatial_ref_sys_shown spatial_ref_sys_known.back
    spatial_ref_sys_known.returns all_spatial_ref_sys (λ x. refl) all_spatial_ref_sys_ranked e.ok e.err e.mode
    e.survives (λ found. found.items) c.all_of.result c.all_of.ensures.values
