-- An identity that the one package names was used.
use Rattle.std.proofs.Common.{◌≡◌}
use Rattle.custody.specs.Receipts.{is_named}
use Rattle.world_queries.proofs.AskedOne.{looked_at}
use Rattle.world_queries.proofs.Questions.{asks_weaker}
use Rattle.world_queries.proofs.Recalled.{ToldAt, named_there}
use Rattle.world_queries.proofs.recalling.named_at.Goals as goal

pub returns : goal.returns
returns g c =
    asks_weaker g.S.Store _ (λ found w count are told. named_there c.args.identity c.args.at found w are.register told)
    (looked_at g.S.Store g.met.S.Store.shut_if_dirty g.met.S.Store.settled
    (λ f p found. found ≡ is_named p c.args.identity) {Answer =
    λ w found. ToldAt (λ p. found ≡ is_named p c.args.identity) c.args.at w} c.args.members.now.items _ c.args.at
    c.named_by.result c.named_by.ensures.looked c.requires.rests
    (λ found w p here told. (p, here, told)))
