-- One record on: a request more, or the fault of a record.
use Rattle.std.proofs.Common.{◌≡◌, ◌∙◌, ◌+◌, ◌∷◌, [], arith, inl, length-append, refl}
use Rattle.std.proofs.lemmas.Result.{err_from_is_err_and}
use Rattle.csv.specs.Records.{fields_of}
use Rattle.request_csv.proofs.ReaderFacts.{request_met, request_read}
use Rattle.request_csv.proofs.readers.ListReader.next_request.Goals as goal

pub returns-in_ok-request-in-Some-Ok-clause-more : goal.returns-in_ok-request-in-Some-Ok-clause-more
returns-in_ok-request-in-Some-Ok-clause-more g c = λ text before stands.
    let step = rw (c.in-Some-Ok.is, c.in-Some-Ok.field-0-is) at
    ((c.next.ensures.steps stands.left stands.plain).0 stands.ready) in
    record {
      plain = step.0.3 ∙ stands.plain;
      ready = inl step.1;
      left = step.2;
      config = step.0.2 ∙ stands.config;
      counted = omega (arith, stands.counted, length-append before (c.in_ok-request-in-Some-Ok.request ∷ []));
      read = request_read g.R.Read.remaining c.args.self.now.rows.rdr c.next.new.self.rdr stands.config before text
          (fields_of c.in-Some-Ok.row) c.in_ok-request-in-Some-Ok.request stands.read step.0
          c.in_ok-request-in-Some-Ok.ensures.asks;
    }

pub returns-in_err-request-in-Some-Ok-clause-fault : goal.returns-in_err-request-in-Some-Ok-clause-fault
returns-in_err-request-in-Some-Ok-clause-fault g c =
    let fact = request_met g.R.Read.remaining c.args.self.now c.next.new.self.rdr g.R.ListSource.never_fails
    (c.args.self.now.count + 1) (fields_of c.in-Some-Ok.row) c.in_err-request-in-Some-Ok.field-0.0
    c.in_err-request-in-Some-Ok.ensures.fault refl
    (λ text before stands. (rw (c.in-Some-Ok.is, c.in-Some-Ok.field-0-is) at
    ((c.next.ensures.steps stands.left stands.plain).0 stands.ready)).0) in
    let exit = err_from_is_err_and c.from_residual.result c.from_residual.ensures.1 in
    rw (exit.1, exit.2) fact
