use Rattle.std.proofs.Common.{◌≡◌, ◌-◌, ℕ, List, length, subst, arith, min, Ok, ◌∙◌}
use Rattle.std.specs.Prelude.{slice_range}
use Rattle.sqlite.specs.Held.{state}
use Rattle.store_sql.specs.Transactions.{Steps}
use Rattle.store_sql.specs.Writing.{EachChained}
use Rattle.package_tables.specs.declared.fault.Fault.{Fault}
use Rattle.transfer.specs.Moves.{PutsLink}
use Rattle.transfer.specs.Parcels.{names_of, part}
use Rattle.transfer.proofs.Carrying.{From, ItemsFrom, part_in, part_stop, stays_same, cut_items, cut_links}
use Rattle.transfer.proofs.pages.carry_part.Goals as goal

pub returns-then-not-came-clause-steps : goal.returns-then-not-came-clause-steps
returns-then-not-came-clause-steps g c =
    let s0 = state g.S.Store c.args.source.now in
    let s1 = state g.S.Store c.carry_items.new.source in
    let all : c.len-items.result ≡ length c.args.selection.now.identities.items =
    omega (arith, c.len-items.ensures) in
    let ids = cut_items c.deref.result.now c.args.selection.now.identities.items c.args.from c.args.to c.min.result
    c.min-2.result c.len-items.result c.deref.ensures.value all c.min.ensures c.min-2.ensures
    c.requires.order in
    part_stop (part c.args.from c.args.to (names_of c.args.selection.now)) c.in_ok-came.came s0 s1 c.if-not-came.true
    (subst (λ l. Steps {E = Fault} (λ v. From s0 s1 (λ p. ItemsFrom l p v)) (state g.S.Store c.args.tx.now.conn.now)
    (state g.S.Store c.carry_items.new.tx.conn.now) (Ok c.in_ok-came.came)) ids c.in_ok-came.ensures.steps)

pub returns-clause-steps : goal.returns-clause-steps
returns-clause-steps g c =
    let s0 = state g.S.Store c.args.source.now in
    let s1 = state g.S.Store c.carry_items.new.source in
    let all : c.len-items.result ≡ length c.args.selection.now.identities.items =
    omega (arith, c.len-items.ensures) in
    let ids = cut_items c.deref.result.now c.args.selection.now.identities.items c.args.from c.args.to c.min.result
    c.min-2.result c.len-items.result c.deref.ensures.value all c.min.ensures c.min-2.ensures
    c.requires.order in
    let links = cut_links c.deref-2.result.now c.args.selection.now.links.items c.args.from c.args.to
    c.saturating_sub.result c.saturating_sub-2.result c.len-items.result
    (length c.args.selection.now.identities.items) c.deref-2.ensures.value all c.saturating_sub.ensures
    c.saturating_sub-2.ensures in
    part_in (part c.args.from c.args.to (names_of c.args.selection.now)) c.in_ok-came.came s0 s1 c.if-not-came.false
    c.in_ok-came.ensures.source (stays_same s0 s1 c.in_ok-came.ensures.source)
    (subst (λ l. Steps {E = Fault} (λ v. From s0 s1 (λ p. ItemsFrom l p v)) (state g.S.Store c.args.tx.now.conn.now)
    (state g.S.Store c.carry_items.new.tx.conn.now) (Ok c.in_ok-came.came)) ids c.in_ok-came.ensures.steps)
    (subst (λ l. Steps {E = Fault} (λ _. EachChained PutsLink l) (state g.S.Store c.carry_items.new.tx.conn.now)
    (state g.S.Store c.put_links.new.tx.conn.now) (Ok c.in_ok-put_links.field-0)) links
    c.in_ok-put_links.ensures.steps)
