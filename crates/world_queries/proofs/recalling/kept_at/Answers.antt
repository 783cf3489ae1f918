-- The receipt that the one package has is the one of the world.
use Rattle.custody.specs.Receipts.{IsKept}
use Rattle.world_queries.proofs.AskedOne.{looked_at}
use Rattle.world_queries.proofs.Questions.{asks_weaker}
use Rattle.world_queries.proofs.Recalled.{ToldAt, kept_there}
use Rattle.world_queries.proofs.recalling.kept_at.Goals as goal

pub returns : goal.returns
returns g c =
    asks_weaker g.S.Store _ (λ found w count are told. kept_there c.args.id c.args.at found w are.register told)
    (looked_at g.S.Store g.met.S.Store.shut_if_dirty g.met.S.Store.settled (λ f p found. IsKept p c.args.id found)
    {Answer = λ w found. ToldAt (λ p. IsKept p c.args.id found) c.args.at w} c.args.members.now.items _ c.args.at
    c.kept_by.result c.kept_by.ensures.looked c.requires.rests
    (λ found w p here told. (p, here, told)))
