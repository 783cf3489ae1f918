-- Each row so far is a value, and the others are to come.
use Rattle.std.proofs.Common.{◌≡◌, ◌++◌, map}
use Rattle.std.specs.Vec.Iter.{into_iter_items}
use Rattle.package_tables.proofs.from_row.values_of.Given as goal

abbrev pub invariant-loop-row : goal.invariant-loop-row
invariant-loop-row g l = record {
  whole : l.fn.rows.items ≡ l.yielded ++ into_iter_items l.row-iterator;
  made : l.yielded ≡ map g.T.FromRow.shown l.values.items;
}
