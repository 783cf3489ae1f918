use Rattle.std.proofs.Common.{refl}
use Rattle.package_tables.specs.Shapes.{relation_shape}
use Rattle.package_tables.specs.Shown.{relation_shown}
use Rattle.package_tables.proofs.FixedStatements.{relations_known, all_relations, all_relations_ranked}
use Rattle.package_schema.proofs.Asking.{rows_look}
use Rattle.package_schema.proofs.first_frames.read_relations.Goals as goal

pub returns : goal.returns
returns g c =
    let e = c.query_all.ensures in
    rows_look (λ rows. rows.items) _ refl g.S.Store g.met.S.Store.shut_if_dirty g.met.S.Store.settled c.args.conn.now
    c.query_all.new.self c.requires c.query_all.result
    relation_shape relations_known.is.laws relation_shown relations_known.back relations_known.returns all_relations
    (λ x. refl) all_relations_ranked e.ok e.err e.mode e.survives (λ found. found.items) c.all_of.result
    c.all_of.ensures.values
