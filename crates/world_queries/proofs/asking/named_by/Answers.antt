-- The look at the one member is its store's turn.
use Rattle.std.proofs.Common.{◌≡◌, Some, slice_get, refl}
use Rattle.std.proofs.lemmas.Option.{slice_get_read}
use Rattle.world_queries.proofs.asking.named_by.Goals as goal

pub returns : goal.returns
returns g c =
    let place : slice_get c.args.members.now.items c.args.at ≡ Some c.index_mut-member.result.now =
    slice_get_read _ _ _ _ refl c.requires.within c.index_mut-member.ensures.value in
    record {
      looked = record {
        was = c.index_mut-member.result.now;
        place = place;
        last = c.names.new.conn;
        others = refl;
        turned = c.names.ensures;
      };
    }
