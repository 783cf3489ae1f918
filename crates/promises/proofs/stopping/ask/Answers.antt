-- What a crash leaves, by the reply and by whether the world can still be used.
use Rattle.promises.proofs.Asked.{asks}
use Rattle.promises.proofs.stopping.ask.Goals as goal

pub returns : goal.returns
returns g c =
    asks g.S.Store c.left_as_it_stands.ensures g.H.Shelf.asks g.H.Shelf.takes c.args.request.now c.args.world.now
    c.apply-reply.new.self _ _ c.has_failed.ensures.held c.apply-reply.result c.apply-reply.ensures.uses
    c.apply-reply.ensures.unharmed c.apply-reply.ensures.usable c.tells_fault.result c.tells_fault.ensures
