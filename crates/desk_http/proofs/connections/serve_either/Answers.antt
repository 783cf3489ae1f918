-- One connection makes a request of it at most, whoever serves it.
use Rattle.std.proofs.Common.{None}
use Rattle.desk_http.proofs.ServedBy.{served_by}
use Rattle.desk_http.proofs.connections.serve_either.Goals as goal

pub returns : goal.returns
returns g c =
    served_by g.S.Store c.args.own.now None c.args.world.now c.serve_one.new.world
    (g.H.Shelf.failures_of c.args.shelf.now) (g.H.Shelf.failures_of c.serve_one.new.shelf) None None
    c.serve_one.result c.serve_one.ensures.served
