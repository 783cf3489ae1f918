use Rattle.std.proofs.Common.{refl}
use Rattle.package_tables.specs.Shapes.{head_shape}
use Rattle.package_tables.specs.Shown.{head_shown}
use Rattle.package_tables.proofs.HeadStatements.{heads_known, all_heads, all_heads_ranked}
use Rattle.package_schema.proofs.Asking.{rows_look}
use Rattle.package_schema.proofs.heads.head_rows.Goals as goal

pub returns : goal.returns
returns g c =
    let e = c.query_all.ensures in
    rows_look (λ rows. rows.items) _ refl g.S.Store g.met.S.Store.shut_if_dirty g.met.S.Store.settled c.args.conn.now
    c.query_all.new.self c.requires c.query_all.result
    head_shape heads_known.is.laws head_shown heads_known.back heads_known.returns all_heads (λ x. refl)
    all_heads_ranked e.ok e.err e.mode e.survives (λ found. found.items) c.all_of.result c.all_of.ensures.values
