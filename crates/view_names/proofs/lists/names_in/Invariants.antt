-- The records so far are the names so far.
use Rattle.std.proofs.Common.{◌≡◌, ◌++◌, map}
use Rattle.std.specs.List.{AllZip}
use Rattle.std.specs.Vec.Iter.{into_iter_items}
use Rattle.csv.specs.Records.{fields_of}
use Rattle.view_names.specs.NameLists.{Names}
use Rattle.view_names.proofs.lists.names_in.Given as goal

abbrev pub invariant-loop-row : goal.invariant-loop-row
invariant-loop-row l = record {
  whole : into_iter_items l.fn.rows ≡ l.yielded ++ into_iter_items l.row-iterator;
  asked : AllZip Names (map fields_of l.yielded) l.names.items;
}
