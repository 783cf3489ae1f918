-- The statement of each form of the range.
use Rattle.std.proofs.Common.{None, Some, sym, refl, to_z-of_z, rules, FitsSigned, w64}
use Rattle.package_tables.specs.Calls.{AreThose}
use Rattle.package_tables.proofs.Looking.{looks_all}
use Rattle.package_tables.proofs.MovedStatements.{moved_known, all_moved}
use Rattle.identity_register.proofs.Looking.{asked}
use Rattle.package_receipts.specs.Read.{is_between}
use Rattle.package_receipts.proofs.BetweenStatements.{moved_to, moved_after, moved_within}
use Rattle.package_receipts.proofs.between.moved_between.Goals as goal

pub returns-in-None-end : goal.returns-in-None-end
returns-in-None-end g c =
    let e = c.query_all.ensures in
    asked (λ after t x. AreThose (λ r. is_between after c.args.end r.seq) t.moved x.items) (sym c.in-None.is)
    (asked (λ end t x. AreThose (λ r. is_between None end r.seq) t.moved x.items) (sym c.in-None-end.is)
    (looks_all moved_known all_moved (λ rows. rows.items) _ refl g.S.Store
    g.met.S.Store.shut_if_dirty g.met.S.Store.settled c.args.conn.now c.query_all.new.self c.requires
    c.query_all.result e.ok e.err e.mode e.survives (λ found. found.items) c.all_of.result
    c.all_of.ensures.values))

pub returns-in-Some-end : goal.returns-in-Some-end
returns-in-Some-end g c =
    let last : FitsSigned w64 c.in-Some-end.last = search rules in
    let e = c.query_all-in-Some-end.ensures in
    asked (λ after t x. AreThose (λ r. is_between after c.args.end r.seq) t.moved x.items) (sym c.in-None.is)
    (asked (λ end t x. AreThose (λ r. is_between None end r.seq) t.moved x.items) (sym c.in-Some-end.is)
    (looks_all moved_known (moved_to c.in-Some-end.last)
    (λ rows. rows.items) _
    (rw (c.params-to_sql.ensures)
    (simp (to_z-of_z, last) refl)) g.S.Store
    g.met.S.Store.shut_if_dirty g.met.S.Store.settled c.args.conn.now c.query_all-in-Some-end.new.self c.requires
    c.query_all-in-Some-end.result e.ok e.err e.mode e.survives (λ found. found.items) c.all_of-in-Some-end.result
    c.all_of-in-Some-end.ensures.values))

pub returns-in-None-end-2 : goal.returns-in-None-end-2
returns-in-None-end-2 g c =
    let before : FitsSigned w64 c.in-Some.before = search rules in
    let e = c.query_all-in-None-end-2.ensures in
    asked (λ after t x. AreThose (λ r. is_between after c.args.end r.seq) t.moved x.items) (sym c.in-Some.is)
    (asked (λ end t x. AreThose (λ r. is_between (Some c.in-Some.before) end r.seq) t.moved x.items)
    (sym c.in-None-end-2.is)
    (looks_all moved_known (moved_after c.in-Some.before)
    (λ rows. rows.items) _
    (rw (c.params-to_sql-in-None-end-2.ensures)
    (simp (to_z-of_z, before) refl)) g.S.Store
    g.met.S.Store.shut_if_dirty g.met.S.Store.settled c.args.conn.now c.query_all-in-None-end-2.new.self c.requires
    c.query_all-in-None-end-2.result e.ok e.err e.mode e.survives (λ found. found.items) c.all_of-in-None-end-2.result
    c.all_of-in-None-end-2.ensures.values))

pub returns-in-Some-end-2 : goal.returns-in-Some-end-2
returns-in-Some-end-2 g c =
    let before : FitsSigned w64 c.in-Some.before = search rules in
    let last : FitsSigned w64 c.in-Some-end-2.last = search rules in
    let e = c.query_all-in-Some-end-2.ensures in
    asked (λ after t x. AreThose (λ r. is_between after c.args.end r.seq) t.moved x.items) (sym c.in-Some.is)
    (asked (λ end t x. AreThose (λ r. is_between (Some c.in-Some.before) end r.seq) t.moved x.items)
    (sym c.in-Some-end-2.is)
    (looks_all moved_known (moved_within c.in-Some.before c.in-Some-end-2.last)
    (λ rows. rows.items) _
    (rw (c.params-to_sql-in-Some-end-2.ensures, c.params-to_sql-in-Some-end-2-2.ensures)
    (simp (to_z-of_z, before, last) refl)) g.S.Store
    g.met.S.Store.shut_if_dirty g.met.S.Store.settled c.args.conn.now c.query_all-in-Some-end-2.new.self c.requires
    c.query_all-in-Some-end-2.result e.ok e.err e.mode e.survives (λ found. found.items) c.all_of-in-Some-end-2.result
    c.all_of-in-Some-end-2.ensures.values))
