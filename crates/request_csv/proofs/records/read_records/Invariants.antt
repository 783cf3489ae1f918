-- The records so far lead from the start of the text to where the reader stands.
use Rattle.std.proofs.Common.{◌≡◌, ◌<◌, ℕ, List, Some, IfSome, map}
use Rattle.csv.specs.Reading.{Reached, Ready, default_config, source_of, strip_bom}
use Rattle.csv.specs.Records.{fields_of}
use Rattle.csv.specs.declared.parser.State.TheVariants as st
use Rattle.csv.specs.declared.reader.Trim.TheVariants as trim
use Rattle.request_csv.proofs.records.read_records.Given as goal

abbrev pub invariant-loop-row : goal.invariant-loop-row
invariant-loop-row g l = record {
  plain : l.row-iterator.rdr.trim ≡ trim.None;
  ready : Ready l.row-iterator.rdr;
  left : 0 < l.row-iterator.left;
  config : l.row-iterator.rdr.config ≡ default_config;
  reached : IfSome (g.R.Read.remaining l.fn.reader) (λ xs. (y : List ℕ)
      × (source_of g.R.Read.remaining l.row-iterator.rdr ≡ Some y)
      × Reached default_config st.StartRecord (strip_bom xs) (map fields_of l.rows.items) l.row-iterator.rdr.state y);
}
