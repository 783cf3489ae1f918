-- The records so far are requests, and counted.
use Rattle.std.proofs.Common.{◌≡◌, ◌++◌, List, length, map}
use Rattle.std.specs.List.{AllZip}
use Rattle.std.specs.Vec.Iter.{into_iter_items}
use Rattle.csv.specs.Records.{fields_of}
use Rattle.sheet_types.specs.declared.command.Request.{Request}
use Rattle.request_csv.specs.RequestLists.{Asks}
use Rattle.request_csv.proofs.causes.cause_in.Given as goal

abbrev pub invariant-loop-row : goal.invariant-loop-row
invariant-loop-row l = record {
  whole : into_iter_items l.fn.rows ≡ l.yielded ++ into_iter_items l.row-iterator;
  counted : l.so_far ≡ length l.yielded;
  asked : (requests : List Request) × AllZip Asks (map fields_of l.yielded) requests;
}
