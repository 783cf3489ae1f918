use Rattle.std.proofs.Common.{refl}
use Rattle.std.specs.Prelude.{⊤}
use Rattle.store_sql.proofs.Staying.{looks_stays}
use Rattle.package_schema.proofs.Asking.{nothing_looks}
use Rattle.package_schema.proofs.Seeing.{seen, sees, fails}
use Rattle.package_schema.proofs.placing.answer_nothing.Goals as goal

pub returns-in_err-query_all : goal.returns-in_err-query_all
returns-in_err-query_all g c =
    let e = c.query_all.ensures in
    fails c.from_residual.result c.from_residual.ensures.0 (looks_stays
    (nothing_looks (λ rows. rows.items) _ refl g.S.Store g.met.S.Store.shut_if_dirty g.met.S.Store.settled
    c.args.conn.now c.query_all.new.self c.requires c.query_all.result e.ok e.err e.mode e.survives))

pub returns : goal.returns
returns g c =
    let e = c.query_all.ensures in
    sees (λ _ _. ⊤) (seen (λ _ _. ⊤) c.in_ok-query_all.was (nothing_looks (λ rows. rows.items) _ refl g.S.Store
    g.met.S.Store.shut_if_dirty g.met.S.Store.settled c.args.conn.now c.query_all.new.self c.requires
    c.query_all.result e.ok e.err e.mode e.survives)) (λ db f. f)
