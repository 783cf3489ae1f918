-- So many requests of the second reading were carried out, their lines written, and each told.
use Rattle.std.proofs.Common.{◌≤◌}
use Rattle.std.specs.String.{string_capacity}
use Rattle.request_imports.proofs.TwiceFacts.{ReadSoFar}
use Rattle.request_imports.proofs.twice.report_read.Given as goal

abbrev pub invariant-loop-at : goal.invariant-loop-at
invariant-loop-at g l = record {
  room : 128 ≤ string_capacity l.buffer;
  so_far : ReadSoFar g.S.Store g.Q.Read.remaining g.H.Shelf.asks g.H.Shelf.takes g.H.Shelf.failures_of l.count l.at
      l.fn.list l.list l.fn.world l.world l.fn.shelf l.shelf (g.W.Write.contents l.fn.writer)
      (g.W.Write.contents l.writer) (g.T.Teller.told l.fn.teller) (g.T.Teller.told l.teller);
}
