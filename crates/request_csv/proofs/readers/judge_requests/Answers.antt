-- The header is read, then one request after the other, to the end or to a fault.
use Rattle.std.proofs.Common.{[], refl}
use Rattle.std.proofs.lemmas.Result.{err_from_is_err_and}
use Rattle.request_csv.proofs.ReaderFacts.{any_fault, any_met, one_more_read, so_many, sure_fault}
use Rattle.request_csv.proofs.readers.judge_requests.Goals as goal

pub judging-init : goal.judging-init
judging-init g c = record { read = ([], refl, c.in_ok-list.ensures.stands) }

pub judging-preserved : goal.judging-preserved
judging-preserved g c = record {
  read = one_more_read g.R.Read.remaining (g.R.Read.remaining c.args.reader) c.judging.at c.judging.list
      c.next_request.new.self c.in-Some._request c.judging.invariant.read
      (rw c.in-Some.is at c.in_ok-_request.ensures.more);
}

pub returns-in-None-clause-list : goal.returns-in-None-clause-list
returns-in-None-clause-list g c =
    so_many g.R.Read.remaining (g.R.Read.remaining c.args.reader) c.judging.at c.judging.list c.judging.invariant.read
    (rw c.in-None.is at c.in_ok-_request.ensures.end)

pub returns-in_err-list-clause-fault : goal.returns-in_err-list-clause-fault
returns-in_err-list-clause-fault g c =
    let fact = any_fault g.R.ListSource.never_fails (g.R.Read.remaining c.args.reader) c.in_err-list.field-0.0
    c.in_err-list.ensures.fault in
    let exit = err_from_is_err_and c.from_residual.result c.from_residual.ensures.1 in
    rw (exit.1, exit.2) fact

pub returns-in_err-list-clause-cause : goal.returns-in_err-list-clause-cause
returns-in_err-list-clause-cause g c = λ never.
    let fact = sure_fault g.R.ListSource.never_fails (g.R.Read.remaining c.args.reader) c.in_err-list.field-0.0
    c.in_err-list.ensures.fault never in
    let exit = err_from_is_err_and c.from_residual.result c.from_residual.ensures.1 in
    rw (exit.1, exit.2) fact
