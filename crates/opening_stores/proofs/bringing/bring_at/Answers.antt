-- The turn is that of the one store.
use Rattle.std.proofs.Common.{◌≡◌, Some, slice_get, refl}
use Rattle.std.proofs.lemmas.Option.{slice_get_read}
use Rattle.opening_stores.proofs.bringing.bring_at.Goals as goal

pub returns : goal.returns
returns g c =
    let place : slice_get c.args.stores.now.items c.args.at ≡ Some c.index_mut-conn.result.now =
    slice_get_read _ _ _ _ refl c.requires.within c.index_mut-conn.ensures.value in
    record {
      turned = record {
        was = c.index_mut-conn.result.now;
        place = place;
        last = c.bring.new.conn;
        others = refl;
        turned = c.bring.ensures;
      };
    }
