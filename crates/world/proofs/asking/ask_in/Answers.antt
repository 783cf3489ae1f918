-- The package has a member or has none.
use Rattle.std.proofs.Common.{subst, sym}
use Rattle.sheet_types.specs.World.{holdings}
use Rattle.world_members.specs.Members.{AreMembers}
use Rattle.world_queries.proofs.Questions.{asks_answer, asks_failed, asks_still}
use Rattle.world.proofs.asking.ask_in.Goals as goal

pub returns-in-None : goal.returns-in-None
returns-in-None g c =
    asks_still g.S.Store g.met.S.Store.shut_if_dirty g.met.S.Store.settled c.requires
    (λ w count are. c.in-None.ensures.dead w count (subst (λ ms. AreMembers g.S.Store ms count w)
    (sym c.as_slice.ensures.value) are))

pub returns-in_ok-ask_at-in-Some : goal.returns-in_ok-ask_at-in-Some
returns-in_ok-ask_at-in-Some g c =
    asks_answer g.S.Store {x = c.in_ok-ask_at-in-Some.field-0} c.in_ok-ask_at-in-Some.was
    (λ w count are told.
    let there : AreMembers g.S.Store c.as_slice.result.now count w =
    subst (λ ms. AreMembers g.S.Store ms count w) (sym c.as_slice.ensures.value) are in
    (c.in-Some.ensures.live w count there, told (holdings w c.args.package) (c.in-Some.ensures.holds w count there)))
    c.ask_at.ensures

pub returns-in_err-ask_at-in-Some : goal.returns-in_err-ask_at-in-Some
returns-in_err-ask_at-in-Some g c = asks_failed g.S.Store _ c.from_residual.ensures.0 c.ask_at.ensures
