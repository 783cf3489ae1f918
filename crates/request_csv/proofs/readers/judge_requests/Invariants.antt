-- So many requests were read.
use Rattle.request_csv.proofs.ReaderFacts.{HasRead}
use Rattle.request_csv.proofs.readers.judge_requests.Given as goal

abbrev pub invariant-judging : goal.invariant-judging
invariant-judging g l = record {
  read : HasRead g.R.Read.remaining (g.R.Read.remaining l.fn.reader) l.at l.list;
}
