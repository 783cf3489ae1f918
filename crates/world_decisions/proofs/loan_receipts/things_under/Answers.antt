-- Each identity is asked in turn, and its thing stands behind those so far.
use Rattle.std.proofs.Common.{◌<◌, ◌∙◌, refl, sym, ap, subst, map, Ok, Err, Some}
use Rattle.std.proofs.lemmas.List.{take_all}
use Rattle.package_tables.specs.declared.fault.Fault.TheVariants.{StoreFault}
use Rattle.world_queries.proofs.Questions.{asks_still, asks_answer, asks_then, asks_failed}
use Rattle.world_members.proofs.Standing.{stay_length}
use Rattle.world_decisions.proofs.Things.{told_of, one_more}
use Rattle.world_decisions.proofs.loan_receipts.things_under.Goals as goal

pub loop-identity-init : goal.loop-identity-init
loop-identity-init g c = record {
  asked = asks_still g.S.Store g.met.S.Store.shut_if_dirty g.met.S.Store.settled c.requires.rests
      (λ w count are p here. sym (ap (map (λ m. Some m)) c.new-things.ensures.items));
}

pub thing_at-requires-clause-within : goal.thing_at-requires-clause-within
thing_at-requires-clause-within g c = subst (λ n. c.args.at < n)
    (stay_length g.S.Store _ _ c.loop-identity.invariant.asked.stay) c.requires.within

pub returns-in_err-thing : goal.returns-in_err-thing
returns-in_err-thing g c = asks_failed g.S.Store _ c.from_residual.ensures.0
    (asks_then g.S.Store {x = c.loop-identity.things.items} _ refl c.loop-identity.invariant.asked c.thing_at.ensures)

pub returns-in_default : goal.returns-in_default
returns-in_default g c = asks_failed g.S.Store (Err StoreFault) refl
    (asks_then g.S.Store {x = c.loop-identity.things.items} _ refl c.loop-identity.invariant.asked c.thing_at.ensures)

pub returns-in_err-push : goal.returns-in_err-push
returns-in_err-push g c = asks_failed g.S.Store _ c.from_residual-in_err-push.ensures.0
    (asks_then g.S.Store {x = c.loop-identity.things.items} _ refl c.loop-identity.invariant.asked c.thing_at.ensures)

pub loop-identity-preserved : goal.loop-identity-preserved
loop-identity-preserved g c = record {
  asked = asks_answer g.S.Store {x = Some c.in-Some.thing} (c.in_ok-thing.was ∙ ap Ok c.in-Some.is)
      (λ w count are both p here. one_more (told_of p) c.args.identities.now c.loop-identity.identity-index
      c.identity-item.result c.loop-identity.things.items c.in-Some.thing c.loop-identity-test.true
      (both.0 p here) (ap (told_of p) (sym c.identity-item.is) ∙ sym (both.1 p here))
      ∙ sym (ap (map (λ m. Some m)) c.in_ok-push.ensures.items))
      (asks_then g.S.Store {x = c.loop-identity.things.items} _ refl c.loop-identity.invariant.asked
      c.thing_at.ensures);
}

pub returns : goal.returns
returns g c =
    asks_answer g.S.Store {x = c.loop-identity.things.items} refl
    (λ w count are told p here. ap (map (told_of p)) (sym (take_all c.loop-identity.identity-index
    c.args.identities.now c.loop-identity-test.false)) ∙ told p here) c.loop-identity.invariant.asked
