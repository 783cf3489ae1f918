-- The look at the one member is its store's turn, and the package is that of the place.
use Rattle.std.proofs.Common.{◌≡◌, ◌∙◌, ap, Some, slice_get, refl}
use Rattle.std.proofs.lemmas.Option.{slice_get_read}
use Rattle.sheet_types.specs.World.{Package}
use Rattle.world_queries.proofs.AskedOne.{looked_at}
use Rattle.world_queries.proofs.asking_one.holdings_at.Goals as goal

pub returns : goal.returns
returns g c =
    let place : slice_get c.args.members.now.items c.args.at ≡ Some c.index_mut-member.result.now =
    slice_get_read _ _ _ _ refl c.requires.within c.index_mut-member.ensures.value in
    looked_at g.S.Store g.met.S.Store.shut_if_dirty g.met.S.Store.settled
    (λ f p held. (held.0.items ≡ p.items) × (held.1.items ≡ p.links)) c.args.members.now.items _ c.args.at
    c.holdings_by_size.result
    (record {
      was = c.index_mut-member.result.now;
      place = place;
      last = c.holdings_by_size.new.conn;
      others = refl;
      turned = c.holdings_by_size.ensures;
    }) c.requires.rests
    (λ held w p here told q there. let same : p ≡ q = cc in (
      told.0 ∙ ap (λ (x : Package). x.items) same,
      told.1
          ∙ ap (λ (x : Package). x.links) same,
    ))
