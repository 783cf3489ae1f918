-- The records so far are written, and the writer stands between two records.
use Rattle.std.proofs.Common.{Some, take}
use Rattle.std.specs.Io.KnownBytes.{Appends}
use Rattle.csv.specs.Writing.{text_written}
use Rattle.request_writing.specs.RequestTexts.{IsBetween, records_text}
use Rattle.request_writing.proofs.texts.write_requests.Given as goal

abbrev pub invariant-loop-request : goal.invariant-loop-request
invariant-loop-request l = record {
  between : IsBetween l.writer;
  written : Appends (text_written (λ v. Some v.items) l.initial.writer) (text_written (λ v. Some v.items) l.writer)
      (records_text (take l.request-index l.requests));
}
