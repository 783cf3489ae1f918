-- A loan that the one package made was made.
use Rattle.std.proofs.Common.{◌≡◌}
use Rattle.custody.specs.Receipts.{was_lent}
use Rattle.world_queries.proofs.AskedOne.{looked_at}
use Rattle.world_queries.proofs.Questions.{asks_weaker}
use Rattle.world_queries.proofs.Recalled.{ToldAt, lent_there}
use Rattle.world_queries.proofs.recalling.lent_at.Goals as goal

pub returns : goal.returns
returns g c =
    asks_weaker g.S.Store _ (λ found w count are told. lent_there c.args.id c.args.at found w told)
    (looked_at g.S.Store g.met.S.Store.shut_if_dirty g.met.S.Store.settled
    (λ f p found. found ≡ was_lent p c.args.id)
    {Answer = λ w found. ToldAt (λ p. found ≡ was_lent p c.args.id) c.args.at w} c.args.members.now.items _
    c.args.at c.lent_by.result c.lent_by.ensures.looked c.requires.rests
    (λ found w p here told. (p, here, told)))
