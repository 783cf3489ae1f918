use Rattle.std.proofs.Common.{◌≤◌, length}
use Rattle.std.specs.String.{string_capacity}
use Rattle.manifest_csv.proofs.ImportFacts.{SoFar}
use Rattle.manifest_csv.proofs.importing.report_each.Given as goal

abbrev pub invariant-loop-at : goal.invariant-loop-at
invariant-loop-at g l = record {
  room : 128 ≤ string_capacity l.buffer;
  so_far : SoFar g.S.Store g.H.Shelf.asks g.H.Shelf.takes g.H.Shelf.failures_of (length l.requests) l.requests l.at
      l.fn.world l.world l.fn.shelf l.shelf (g.W.Write.contents l.fn.writer) (g.W.Write.contents l.writer)
      (g.T.Teller.told l.fn.teller) (g.T.Teller.told l.teller);
}
