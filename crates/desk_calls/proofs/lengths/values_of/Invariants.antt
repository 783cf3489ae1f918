-- The values of the fields so far.
use Rattle.std.proofs.Common.{take, map}
use Rattle.httparse.specs.Spans.{header_bytes}
use Rattle.desk_calls.specs.Calls.{AreValues, values_of}
use Rattle.desk_calls.proofs.lengths.values_of.Given as goal

abbrev pub invariant-fields : goal.invariant-fields
invariant-fields l = record {
  found : AreValues (values_of l.name
      (map (header_bytes l.input) (take l.header-index l.headers))) l.found;
}
