-- The connections so far, and a world that can be used.
use Rattle.std.proofs.Common.{◌≡◌, false}
use Rattle.desk_http.specs.Connections.{AreServed}
use Rattle.desk_http.proofs.connections.serve_with.Given as goal

abbrev pub invariant-connections : goal.invariant-connections
invariant-connections g l = AreServed g.S.Store l.turn l.initial.world l.world × (l.world.has_failed ≡ false)
