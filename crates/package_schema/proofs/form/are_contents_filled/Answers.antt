use Rattle.std.proofs.Common.{refl, sym, subst, IsTrue}
use Rattle.std.specs.Prelude.{◌↔◌, IsOkAnd}
use Rattle.std.specs.List.{AllByRecursion}
use Rattle.package_tables.specs.Shapes.{contents_shape}
use Rattle.package_tables.proofs.Written.{contents_listed}
use Rattle.package_schema.specs.Rows.{IsFull}
use Rattle.package_schema.proofs.Filling.{contents_whole, whole_looks, none_ok}
use Rattle.package_schema.proofs.form.are_contents_filled.Goals as goal

pub returns-in_err-rows : goal.returns-in_err-rows
returns-in_err-rows g c =
    let e = c.query_all.ensures in
    whole_looks contents_shape contents_listed.laws contents_whole (λ rows. rows.items) _ refl g.S.Store
    g.met.S.Store.shut_if_dirty g.met.S.Store.settled c.args.conn.now c.query_all.new.self c.requires
    c.query_all.result e.ok e.err e.mode e.survives c.from_residual.result
    (none_ok _ c.from_residual.result c.from_residual.ensures.0)

pub returns : goal.returns
returns g c =
    let e = c.query_all.ensures in
    whole_looks contents_shape contents_listed.laws contents_whole (λ rows. rows.items) _ refl g.S.Store
    g.met.S.Store.shut_if_dirty g.met.S.Store.settled c.args.conn.now c.query_all.new.self c.requires
    c.query_all.result e.ok e.err e.mode e.survives _
    (subst (λ r. IsOkAnd r (λ rows. IsTrue c.are_full.result ↔ AllByRecursion IsFull rows.items))
    (sym c.in_ok-rows.was) (subst (λ rows. IsTrue c.are_full.result ↔ AllByRecursion IsFull rows)
    c.deref.ensures.value c.are_full.ensures))
