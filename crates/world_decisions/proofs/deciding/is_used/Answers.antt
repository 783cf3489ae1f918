-- Only an addition brings an identity in, and all members are asked for that.
use Rattle.std.proofs.Common.{◌∙◌, sym, ap, false}
use Rattle.std.specs.Option.{option_map_or}
use Rattle.sheet_types.specs.Custody.{is_used}
use Rattle.world_queries.proofs.Questions.{asks_weaker, asks_still}
use Rattle.world_decisions.proofs.deciding.is_used.Goals as goal

pub returns-in-Some : goal.returns-in-Some
returns-in-Some g c = asks_weaker g.S.Store _ (λ found w count are told knows. told knows
    ∙ sym (c.new_identity.ensures w ∙ ap (λ o. option_map_or (is_used w) o false) c.in-Some.is)) c.was_used.ensures

pub returns-in-None : goal.returns-in-None
returns-in-None g c =
    asks_still g.S.Store g.met.S.Store.shut_if_dirty g.met.S.Store.settled c.requires
    (λ w count are knows. sym (c.new_identity.ensures w ∙ ap (λ o. option_map_or (is_used w) o false)
    c.in-None.is))
