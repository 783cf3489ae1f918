use Rattle.std.proofs.Common.{◌≡◌, ◌∙◌, ◌≤◌, ◌+◌, ◌++◌, ◌∷◌, [], true, length, sym}
use Rattle.std.proofs.Common.{subst, take, drop, arith}
use Rattle.std.specs.List.{filter_map}
use Rattle.std.proofs.lemmas.List.{take_all}
use Rattle.sqlite.specs.Held.{state}
use Rattle.sheet_types.specs.World.{item_of}
use Rattle.store_sql.specs.Writing.{EachChained}
use Rattle.store_sql.proofs.Staying.{stays_then}
use Rattle.transfer.specs.Moves.{PutsItem}
use Rattle.transfer.proofs.Carrying.{ItemsFrom, from_so, carried_more, carried_stop}
use Rattle.transfer.proofs.Trying.{take_one, whole_of}
use Rattle.transfer.proofs.pages.carry_items.Goals as goal

pub returns-then-not-came-clause-steps : goal.returns-then-not-came-clause-steps
returns-then-not-came-clause-steps g c =
    let ids = c.args.identities.now in
    let at = c.loop-identity.identity-index in
    let id = c.identity-item.result in
    carried_stop ids (take at ids) (id ∷ []) (drop (at + 1) ids) c.in_ok-came.came (state g.S.Store c.args.source.now)
    (state g.S.Store c.loop-identity.source) (state g.S.Store c.carry_item.new.source)
    (whole_of ids at id c.loop-identity-test.true c.identity-item.is) c.if-not-came.true
    c.loop-identity.invariant.source c.in_ok-came.ensures.source c.loop-identity.invariant.each
    c.in_ok-came.ensures.steps

pub loop-identity-preserved : goal.loop-identity-preserved
loop-identity-preserved g c =
    let ids = c.args.identities.now in
    let at = c.loop-identity.identity-index in
    let id = c.identity-item.result in
    record {
      same = c.carry_item.ensures.same_reference ∙ c.loop-identity.invariant.same;
      source = stays_then c.loop-identity.invariant.source c.carry_item.ensures.source;
      each = carried_more (take (at + 1) ids) (take at ids) (id ∷ []) c.in_ok-came.came
          (state g.S.Store c.args.source.now) (state g.S.Store c.loop-identity.source)
          (state g.S.Store c.carry_item.new.source) (sym (take_one ids at id c.loop-identity-test.true
          c.identity-item.is)) c.if-not-came.false c.loop-identity.invariant.source c.in_ok-came.ensures.source
          c.loop-identity.invariant.each c.in_ok-came.ensures.steps;
    }

pub returns-clause-steps : goal.returns-clause-steps
returns-clause-steps g c =
    let ids = c.args.identities.now in
    let all : length ids ≤ c.loop-identity.identity-index = omega (arith, c.loop-identity-test.false) in
    from_so (ItemsFrom ids) (state g.S.Store c.args.source.now) (state g.S.Store c.loop-identity.source) true
    (λ p a b it. subst (λ l. EachChained PutsItem (filter_map (item_of p) l) a b)
    (take_all c.loop-identity.identity-index ids all) it) c.loop-identity.invariant.each
