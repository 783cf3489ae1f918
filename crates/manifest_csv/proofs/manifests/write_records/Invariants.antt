-- The records so far are written, and the writer stands between two records.
use Rattle.std.proofs.Common.{Some, take}
use Rattle.std.specs.Io.KnownBytes.{Appends}
use Rattle.csv.specs.Writing.{text_written}
use Rattle.manifest_csv.specs.Manifests.{IsBetween, records_text}
use Rattle.manifest_csv.proofs.manifests.write_records.Given as goal

abbrev pub invariant-loop-record : goal.invariant-loop-record
invariant-loop-record g l = record {
  between : IsBetween l.writer;
  written : Appends (text_written (λ v. Some v.items) l.initial.writer) (text_written (λ v. Some v.items) l.writer)
      (records_text g.R.Record.fields (take l.record-index l.records));
}
