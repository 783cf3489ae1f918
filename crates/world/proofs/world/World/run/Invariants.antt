use Rattle.std.proofs.Common.{◌+◌, ◌≤◌, take, length, vec_len, vec_capacity}
use Rattle.world.specs.Worlds.{IsRun}
use Rattle.world.specs.Asked.{IsRunWith}
use Rattle.world.proofs.world.World.run.Given as goal

abbrev pub invariant-loop-request : goal.invariant-loop-request
invariant-loop-request g l = record {
  ran : IsRun g.S.Store (take l.request-index l.requests) l.fn.self l.replies.items l.self
      (g.H.Shelf.failures_of l.fn.shelf) (g.H.Shelf.failures_of l.shelf);
  uses : IsRunWith g.S.Store g.H.Shelf.asks g.H.Shelf.takes g.H.Shelf.failures_of (take l.request-index l.requests)
      l.fn.self l.replies.items l.self (g.H.Shelf.failures_of l.fn.shelf) (g.H.Shelf.failures_of l.shelf) l.fn.shelf
      l.shelf;
  room : length l.requests + vec_len l.replies ≤ vec_capacity l.replies + l.request-index;
}
