-- What was opened stands for that world, and the requests lead on from it.
use Rattle.std.specs.Prelude.{refl}
use Rattle.promises.proofs.Opening.{opens_again}
use Rattle.promises.proofs.reopening.open_and_run.Goals as goal

pub returns-in-Ok-run : goal.returns-in-Ok-run
returns-in-Ok-run g c =
    opens_again g.S.Store g.H.Shelf.asks g.H.Shelf.takes c.opens_again.ensures c.left_is_stores.ensures
    c.args.stores.items c.in-Ok.found c.args.requests.now
    (record { world = c.run.new.self; replies = c.in-Ok-run.replies; strays = c.in-Ok.found.strays }) _ _ _ _
    refl
    c.have_types.ensures c.in-Ok.ensures.stands c.in-Ok-run.ensures.uses
