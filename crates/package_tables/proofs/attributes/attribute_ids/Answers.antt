use Rattle.std.proofs.Common.{refl}
use Rattle.package_tables.proofs.Numbering.{looks_ids}
use Rattle.package_tables.proofs.Written.{attributes_listed}
use Rattle.package_tables.proofs.AttributeStatements.{ids}
use Rattle.package_tables.proofs.attributes.attribute_ids.Goals as goal

pub returns : goal.returns
returns g c =
    let e = c.query_all.ensures in
    looks_ids attributes_listed ids (λ rows. rows.items) _ refl g.S.Store g.met.S.Store.shut_if_dirty
    g.met.S.Store.settled
    c.args.conn.now c.query_all.new.self c.requires c.query_all.result e.ok e.err e.mode e.survives (λ x. refl) refl
    (λ v x. refl) (λ found. found.items) c.numbers_of.result c.numbers_of.ensures.numbers
