-- What is not known was never lent; else the package to which it leads is asked, and then all.
use Rattle.std.proofs.Common.{◌∙◌, sym, ap, refl, Ok, true, false}
use Rattle.world_known.proofs.Remembering.{none_lent}
use Rattle.world_queries.proofs.Questions.{asks_weaker, asks_answer, asks_still, asks_then}
use Rattle.world_queries.proofs.recalling.was_ever_lent.Goals as goal

pub returns-in_default : goal.returns-in_default
returns-in_default g c =
    asks_still g.S.Store g.met.S.Store.shut_if_dirty g.met.S.Store.settled c.requires
    (λ w count are knows. sym (none_lent c.args.known.now w knows c.args.id
    (c.place_of.ensures.new c.in_default.is)))

pub returns-then-branch : goal.returns-then-branch
returns-then-branch g c =
    asks_answer g.S.Store {x = true} (c.in_ok-lent_near.was ∙ ap Ok c.if-branch.true)
    (λ w count are told knows. sym (told refl)) c.lent_near.ensures

pub returns : goal.returns
returns g c =
    asks_weaker g.S.Store _ (λ found w count are told knows. told.1)
    (asks_then g.S.Store {x = false} _ (c.in_ok-lent_near.was ∙ ap Ok c.if-branch.false) c.lent_near.ensures
    c.was_lent_in_all.ensures)
