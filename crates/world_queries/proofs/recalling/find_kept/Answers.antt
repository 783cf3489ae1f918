-- What is not known did not come before; else the package to which it leads is asked, and then all.
use Rattle.std.proofs.Common.{◌∙◌, sym, ap, Ok, Some, None}
use Rattle.world_known.proofs.Remembering.{none_kept}
use Rattle.world_queries.proofs.Questions.{asks_weaker, asks_answer, asks_still, asks_then}
use Rattle.world_queries.proofs.recalling.find_kept.Goals as goal

pub returns-in_default : goal.returns-in_default
returns-in_default g c =
    asks_still g.S.Store g.met.S.Store.shut_if_dirty g.met.S.Store.settled c.requires
    (λ w count are knows. sym (none_kept c.args.known.now w knows c.args.id
    (c.place_of.ensures.new c.in_default.is)))

pub returns-in-Some-2 : goal.returns-in-Some-2
returns-in-Some-2 g c =
    asks_answer g.S.Store {x = Some c.in-Some-2.receipt} (c.in_ok-receipt.was ∙ ap Ok c.in-Some-2.is)
    (λ w count are told knows. told) c.kept_near.ensures

pub returns : goal.returns
returns g c =
    asks_weaker g.S.Store _ (λ found w count are told knows. told.1)
    (asks_then g.S.Store {x = None} _ (c.in_ok-receipt.was ∙ ap Ok c.in_default-2.is) c.kept_near.ensures
    c.kept_in_all.ensures)
