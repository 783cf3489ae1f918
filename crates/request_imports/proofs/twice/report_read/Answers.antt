-- One request more, and its line; or the end.
use Rattle.std.proofs.Common.{◌≡◌, ◌∙◌, ◌+◌, arith, refl, sym, subst}
use Rattle.std.specs.Io.KnownBytes.{Appends}
use Rattle.std.proofs.lemmas.Result.{err_from_is_err_and}
use Rattle.world.proofs.ChangesMade.{turned_into}
use Rattle.manifest_csv.specs.Imports.{IsEndOf}
use Rattle.manifest_csv.specs.Reports.{report_line}
use Rattle.manifest_csv.specs.Sent.{WentOut}
use Rattle.manifest_csv.specs.declared.importing.ImportFault.TheVariants.{Unwritten}
use Rattle.request_imports.specs.declared.twice.TwiceFault.TheVariants.{Import}
use Rattle.request_imports.proofs.TwiceFacts.{ReadSoFar, ReportsRead, at_end, broken, nothing_read, one_read}
use Rattle.request_imports.proofs.TwiceFacts.{stop_read, unwritten_read}
use Rattle.request_imports.proofs.twice.report_read.Goals as goal

pub loop-at-init : goal.loop-at-init
loop-at-init g c = record {
  room = c.requires.room;
  so_far = nothing_read g.S.Store g.Q.Read.remaining g.H.Shelf.asks g.H.Shelf.takes g.H.Shelf.failures_of c.args.count
      c.args.list.now c.args.world.now c.args.shelf.now (g.W.Write.contents c.args.writer.now)
      (g.T.Teller.told c.args.teller.now);
}

pub returns-in_err-request : goal.returns-in_err-request
returns-in_err-request g c =
    let fact = broken g.S.Store g.Q.Read.remaining g.H.Shelf.asks g.H.Shelf.takes g.H.Shelf.failures_of
    c.args.count c.loop-at.at c.args.list.now c.loop-at.list c.args.world.now c.loop-at.world c.args.shelf.now
    c.loop-at.shelf (g.W.Write.contents c.args.writer.now) (g.W.Write.contents c.loop-at.writer)
    (g.T.Teller.told c.args.teller.now) (g.T.Teller.told c.loop-at.teller) c.loop-at.invariant.so_far
    c.in_err-request.field-0.0 c.in_err-request.ensures.breaks
    (λ text front long stands. c.in_err-request.ensures.fault c.args.count text front c.loop-at-test.true long
    stands) in
    let exit = err_from_is_err_and c.from_residual.result c.from_residual.ensures.1 in
    rw (exit.1, exit.2) fact

pub returns-in_err-send : goal.returns-in_err-send
returns-in_err-send g c =
    let request = c.in_ok-request.request in
    let line : WentOut (g.W.Write.contents c.loop-at.writer) (g.W.Write.contents c.send.new.writer)
    (report_line (c.loop-at.at + 1) request.id c.apply-reply.result) =
    subst (WentOut (g.W.Write.contents c.loop-at.writer) (g.W.Write.contents c.send.new.writer))
    (c.as_bytes.ensures.value ∙ c.put_line.ensures.text) c.in_err-send.ensures.err in
    subst (ReportsRead g.S.Store g.Q.Read.remaining g.H.Shelf.asks g.H.Shelf.takes g.H.Shelf.failures_of c.args.count
    c.args.list.now c.args.world.now c.apply-reply.new.self c.args.shelf.now c.apply-reply.new.shelf
    (g.W.Write.contents c.args.writer.now) (g.W.Write.contents c.send.new.writer)
    (g.T.Teller.told c.args.teller.now) (g.T.Teller.told c.loop-at.teller))
    (sym (turned_into c.from_residual-in_err-send.result (Import Unwritten)
    c.from_residual-in_err-send.ensures.1))
    (unwritten_read g.S.Store g.Q.Read.remaining g.H.Shelf.asks g.H.Shelf.takes g.H.Shelf.failures_of
    c.args.count c.loop-at.at c.args.list.now c.loop-at.list c.args.world.now c.loop-at.world c.args.shelf.now
    c.loop-at.shelf (g.W.Write.contents c.args.writer.now) (g.W.Write.contents c.loop-at.writer)
    (g.T.Teller.told c.args.teller.now) (g.T.Teller.told c.loop-at.teller) c.loop-at.invariant.so_far
    c.loop-at-test.true c.request_after.new.list request c.in_ok-request.ensures.request c.apply-reply.new.self
    c.apply-reply.new.shelf c.apply-reply.result
    (record {
      step = c.apply-reply.ensures.uses.step;
      still = c.apply-reply.ensures.still;
      unharmed = c.apply-reply.ensures.unharmed;
      rises = c.apply-reply.ensures.rises;
      failed = c.apply-reply.ensures.failed;
      cause = c.apply-reply.ensures.cause;
      usable = c.apply-reply.ensures.usable;
      shelf = c.apply-reply.ensures.shelf;
    })
    c.apply-reply.ensures.uses refl
    (g.W.Write.contents c.send.new.writer) line)

pub returns-in-Some : goal.returns-in-Some
returns-in-Some g c =
    let request = c.in_ok-request.request in
    let line : Appends (g.W.Write.contents c.loop-at.writer) (g.W.Write.contents c.send.new.writer)
    (report_line (c.loop-at.at + 1) request.id c.apply-reply.result) =
    subst (Appends (g.W.Write.contents c.loop-at.writer) (g.W.Write.contents c.send.new.writer))
    (c.as_bytes.ensures.value ∙ c.put_line.ensures.text) c.in_ok-send.ensures.ok in
    stop_read g.S.Store g.Q.Read.remaining g.H.Shelf.asks g.H.Shelf.takes g.H.Shelf.failures_of
    c.args.count c.loop-at.at c.args.list.now c.loop-at.list c.args.world.now c.loop-at.world c.args.shelf.now
    c.loop-at.shelf (g.W.Write.contents c.args.writer.now) (g.W.Write.contents c.loop-at.writer)
    (g.T.Teller.told c.args.teller.now) (g.T.Teller.told c.loop-at.teller) c.loop-at.invariant.so_far
    c.loop-at-test.true c.request_after.new.list request c.in_ok-request.ensures.request c.apply-reply.new.self
    c.apply-reply.new.shelf c.apply-reply.result
    (record {
      step = c.apply-reply.ensures.uses.step;
      still = c.apply-reply.ensures.still;
      unharmed = c.apply-reply.ensures.unharmed;
      rises = c.apply-reply.ensures.rises;
      failed = c.apply-reply.ensures.failed;
      cause = c.apply-reply.ensures.cause;
      usable = c.apply-reply.ensures.usable;
      shelf = c.apply-reply.ensures.shelf;
    })
    c.apply-reply.ensures.uses refl
    (g.W.Write.contents c.send.new.writer) (g.T.Teller.told c.tell.new.self) c.in-Some.fault
    (subst (IsEndOf c.apply-reply.result) c.in-Some.is c.end_of.ensures) line c.tell.ensures

pub loop-at-preserved : goal.loop-at-preserved
loop-at-preserved g c =
    let request = c.in_ok-request.request in
    let line : Appends (g.W.Write.contents c.loop-at.writer) (g.W.Write.contents c.send.new.writer)
    (report_line (c.loop-at.at + 1) request.id c.apply-reply.result) =
    subst (Appends (g.W.Write.contents c.loop-at.writer) (g.W.Write.contents c.send.new.writer))
    (c.as_bytes.ensures.value ∙ c.put_line.ensures.text) c.in_ok-send.ensures.ok in
    record {
      room = c.put_line.ensures.room;
      so_far = one_read g.S.Store g.Q.Read.remaining g.H.Shelf.asks g.H.Shelf.takes g.H.Shelf.failures_of
          c.args.count c.loop-at.at c.args.list.now c.loop-at.list c.args.world.now c.loop-at.world c.args.shelf.now
          c.loop-at.shelf (g.W.Write.contents c.args.writer.now) (g.W.Write.contents c.loop-at.writer)
          (g.T.Teller.told c.args.teller.now) (g.T.Teller.told c.loop-at.teller) c.loop-at.invariant.so_far
          c.loop-at-test.true c.request_after.new.list request c.in_ok-request.ensures.request c.apply-reply.new.self
          c.apply-reply.new.shelf c.apply-reply.result
          (record {
            step = c.apply-reply.ensures.uses.step;
            still = c.apply-reply.ensures.still;
            unharmed = c.apply-reply.ensures.unharmed;
            rises = c.apply-reply.ensures.rises;
            failed = c.apply-reply.ensures.failed;
            cause = c.apply-reply.ensures.cause;
            usable = c.apply-reply.ensures.usable;
            shelf = c.apply-reply.ensures.shelf;
          })
          c.apply-reply.ensures.uses refl
          (g.W.Write.contents c.send.new.writer) (g.T.Teller.told c.tell.new.self) line
          (subst (IsEndOf c.apply-reply.result) c.in_default.is c.end_of.ensures) c.tell.ensures;
    }

pub returns : goal.returns
returns g c =
    let all : c.loop-at.at ≡ c.args.count = omega (arith, c.loop-at-test.false, c.loop-at.auto.at-end) in
    at_end g.S.Store g.Q.Read.remaining g.H.Shelf.asks g.H.Shelf.takes g.H.Shelf.failures_of c.args.count c.args.count
    c.args.list.now c.loop-at.list c.args.world.now c.loop-at.world c.args.shelf.now c.loop-at.shelf
    (g.W.Write.contents c.args.writer.now) (g.W.Write.contents c.loop-at.writer)
    (g.T.Teller.told c.args.teller.now) (g.T.Teller.told c.loop-at.teller)
    (subst (λ n. ReadSoFar g.S.Store g.Q.Read.remaining g.H.Shelf.asks g.H.Shelf.takes g.H.Shelf.failures_of
    c.args.count n
    c.args.list.now c.loop-at.list c.args.world.now c.loop-at.world c.args.shelf.now c.loop-at.shelf
    (g.W.Write.contents c.args.writer.now) (g.W.Write.contents c.loop-at.writer)
    (g.T.Teller.told c.args.teller.now) (g.T.Teller.told c.loop-at.teller)) all c.loop-at.invariant.so_far)
    c.check_end.result c.check_end.ensures.breaks c.check_end.ensures.ends
