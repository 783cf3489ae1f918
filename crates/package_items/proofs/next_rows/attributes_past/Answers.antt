-- The first row of all, or of those after the last one.
use Rattle.std.proofs.Common.{sym, refl, to_z-of_z, rules, FitsSigned, w64}
use Rattle.std.specs.Prelude.{filter}
use Rattle.package_tables.specs.Calls.{IsLeast}
use Rattle.package_tables.proofs.Next.{looks_next}
use Rattle.package_tables.proofs.AttributeStatements.{known}
use Rattle.identity_register.proofs.Looking.{asked}
use Rattle.package_items.specs.Walks.{is_past}
use Rattle.package_items.proofs.NextStatements.{attributes_first, attributes_after}
use Rattle.package_items.proofs.next_rows.attributes_past.Goals as goal

pub returns-in-None : goal.returns-in-None
returns-in-None g c =
    let e = c.query_all.ensures in
    asked (λ last t x. IsLeast (λ y. y.id) (filter (λ y. is_past last y.id) t.rows) x) (sym c.in-None.is)
    (looks_next known attributes_first (λ rows. rows.items) _ refl g.S.Store g.met.S.Store.shut_if_dirty
    g.met.S.Store.settled c.args.conn.now c.query_all.new.self c.requires c.query_all.result e.ok e.err e.mode
    e.survives c.first_of.result c.first_of.ensures.first)

pub returns-in-Some : goal.returns-in-Some
returns-in-Some g c =
    let id : FitsSigned w64 c.in-Some.id = search rules in
    let e = c.query_all-in-Some.ensures in
    asked (λ last t x. IsLeast (λ y. y.id) (filter (λ y. is_past last y.id) t.rows) x) (sym c.in-Some.is)
    (looks_next known (attributes_after c.in-Some.id) (λ rows. rows.items) _
    (rw (c.params-to_sql.ensures) (simp (to_z-of_z, id) refl)) g.S.Store g.met.S.Store.shut_if_dirty
    g.met.S.Store.settled c.args.conn.now c.query_all-in-Some.new.self c.requires c.query_all-in-Some.result e.ok
    e.err e.mode e.survives c.first_of-in-Some.result c.first_of-in-Some.ensures.first)
