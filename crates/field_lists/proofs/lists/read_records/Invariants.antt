-- The records so far lead from the start of the text to where the reader stands, and are the entries so far.
use Rattle.std.proofs.Common.{◌≡◌, ◌<◌, IfSome}
use Rattle.csv.specs.Reading.{Ready, default_config}
use Rattle.csv.specs.declared.reader.Trim.TheVariants as trim
use Rattle.field_lists.proofs.RecordFacts.{IsReadTo}
use Rattle.field_lists.proofs.lists.read_records.Given as goal

abbrev pub invariant-loop-row : goal.invariant-loop-row
invariant-loop-row g l = record {
  plain : l.row-iterator.rdr.trim ≡ trim.None;
  ready : Ready l.row-iterator.rdr;
  left : 0 < l.row-iterator.left;
  config : l.row-iterator.rdr.config ≡ default_config;
  read : IfSome (g.R.Read.remaining l.fn.reader) (IsReadTo g.R.Read.remaining l.row-iterator.rdr l.has_header
      l.entries.items);
}
