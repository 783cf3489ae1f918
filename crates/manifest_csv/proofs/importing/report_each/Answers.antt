-- One request more, and its line; or the end.
use Rattle.std.proofs.Common.{◌≡◌, ◌∙◌, ◌+◌, arith, length, refl, sym, subst}
use Rattle.std.specs.Io.KnownBytes.{Appends}
use Rattle.manifest_csv.specs.Imports.{IsReportedWith, IsEndOf}
use Rattle.manifest_csv.specs.Reports.{report_line}
use Rattle.manifest_csv.specs.Sent.{WentOut}
use Rattle.manifest_csv.specs.declared.importing.ImportFault.TheVariants.{Unwritten}
use Rattle.world.proofs.ChangesMade.{turned_into}
use Rattle.manifest_csv.proofs.ImportFacts.{all_reported, one_more, stopped, unwritten, none_yet}
use Rattle.manifest_csv.proofs.importing.report_each.Goals as goal

pub loop-at-init : goal.loop-at-init
loop-at-init g c = record {
  room = c.requires.room;
  so_far =
      none_yet g.S.Store g.H.Shelf.asks g.H.Shelf.takes g.H.Shelf.failures_of (length c.args.requests.now)
      c.args.requests.now c.args.world.now c.args.shelf.now (g.W.Write.contents c.args.writer.now)
      (g.T.Teller.told c.args.teller.now);
}

pub returns-in_err-send : goal.returns-in_err-send
returns-in_err-send g c =
    let line : WentOut (g.W.Write.contents c.loop-at.writer) (g.W.Write.contents c.send.new.writer)
    (report_line (c.loop-at.at + 1) c.index-requests-at.result.id c.apply-reply.result) =
    subst (WentOut (g.W.Write.contents c.loop-at.writer) (g.W.Write.contents c.send.new.writer))
    (c.as_bytes.ensures.value ∙ c.put_line.ensures.text) c.in_err-send.ensures.err in
    subst (IsReportedWith g.S.Store g.H.Shelf.asks g.H.Shelf.takes g.H.Shelf.failures_of
    (length c.args.requests.now) c.args.requests.now c.args.world.now c.apply-reply.new.self c.args.shelf.now
    c.apply-reply.new.shelf (g.W.Write.contents c.args.writer.now) (g.W.Write.contents c.send.new.writer)
    (g.T.Teller.told c.args.teller.now) (g.T.Teller.told c.loop-at.teller))
    (sym (turned_into c.from_residual.result Unwritten c.from_residual.ensures.1))
    (unwritten g.S.Store g.H.Shelf.asks g.H.Shelf.takes g.H.Shelf.failures_of (length c.args.requests.now)
    c.args.requests.now c.loop-at.at c.args.world.now c.loop-at.world c.apply-reply.new.self c.args.shelf.now
    c.loop-at.shelf c.apply-reply.new.shelf (g.W.Write.contents c.args.writer.now)
    (g.W.Write.contents c.loop-at.writer) (g.T.Teller.told c.args.teller.now) (g.T.Teller.told c.loop-at.teller)
    c.loop-at.invariant.so_far c.loop-at-test.true c.index-requests-at.result c.index-requests-at.is
    c.apply-reply.result
    (record {
      step = c.apply-reply.ensures.uses.step;
      still = c.apply-reply.ensures.still;
      unharmed = c.apply-reply.ensures.unharmed;
      rises = c.apply-reply.ensures.rises;
      failed = c.apply-reply.ensures.failed;
      cause = c.apply-reply.ensures.cause;
      usable = c.apply-reply.ensures.usable;
      shelf = c.apply-reply.ensures.shelf;
    })
    c.apply-reply.ensures.uses refl (g.W.Write.contents c.send.new.writer) line)

pub returns-in-Some : goal.returns-in-Some
returns-in-Some g c =
    let line : Appends (g.W.Write.contents c.loop-at.writer) (g.W.Write.contents c.send.new.writer)
    (report_line (c.loop-at.at + 1) c.index-requests-at.result.id c.apply-reply.result) =
    subst (Appends (g.W.Write.contents c.loop-at.writer) (g.W.Write.contents c.send.new.writer))
    (c.as_bytes.ensures.value ∙ c.put_line.ensures.text) c.in_ok-send.ensures.ok in
    stopped g.S.Store g.H.Shelf.asks g.H.Shelf.takes g.H.Shelf.failures_of (length c.args.requests.now)
    c.args.requests.now c.loop-at.at c.args.world.now c.loop-at.world c.apply-reply.new.self c.args.shelf.now
    c.loop-at.shelf c.apply-reply.new.shelf (g.W.Write.contents c.args.writer.now)
    (g.W.Write.contents c.loop-at.writer) (g.T.Teller.told c.args.teller.now) (g.T.Teller.told c.loop-at.teller)
    c.loop-at.invariant.so_far c.loop-at-test.true c.index-requests-at.result c.index-requests-at.is
    c.apply-reply.result
    (record {
      step = c.apply-reply.ensures.uses.step;
      still = c.apply-reply.ensures.still;
      unharmed = c.apply-reply.ensures.unharmed;
      rises = c.apply-reply.ensures.rises;
      failed = c.apply-reply.ensures.failed;
      cause = c.apply-reply.ensures.cause;
      usable = c.apply-reply.ensures.usable;
      shelf = c.apply-reply.ensures.shelf;
    })
    c.apply-reply.ensures.uses refl (g.W.Write.contents c.send.new.writer) (g.T.Teller.told c.tell.new.self)
    c.in-Some.fault (subst (IsEndOf c.apply-reply.result) c.in-Some.is c.end_of.ensures) line c.tell.ensures

pub loop-at-preserved : goal.loop-at-preserved
loop-at-preserved g c =
    let line : Appends (g.W.Write.contents c.loop-at.writer) (g.W.Write.contents c.send.new.writer)
    (report_line (c.loop-at.at + 1) c.index-requests-at.result.id c.apply-reply.result) =
    subst (Appends (g.W.Write.contents c.loop-at.writer) (g.W.Write.contents c.send.new.writer))
    (c.as_bytes.ensures.value ∙ c.put_line.ensures.text) c.in_ok-send.ensures.ok in
    record {
      room = c.put_line.ensures.room;
      so_far = one_more g.S.Store g.H.Shelf.asks g.H.Shelf.takes g.H.Shelf.failures_of (length c.args.requests.now)
          c.args.requests.now c.loop-at.at c.args.world.now c.loop-at.world c.apply-reply.new.self c.args.shelf.now
          c.loop-at.shelf c.apply-reply.new.shelf (g.W.Write.contents c.args.writer.now)
          (g.W.Write.contents c.loop-at.writer) (g.T.Teller.told c.args.teller.now)
          (g.T.Teller.told c.loop-at.teller) c.loop-at.invariant.so_far c.loop-at-test.true
          c.index-requests-at.result c.index-requests-at.is c.apply-reply.result
          (record {
            step = c.apply-reply.ensures.uses.step;
            still = c.apply-reply.ensures.still;
            unharmed = c.apply-reply.ensures.unharmed;
            rises = c.apply-reply.ensures.rises;
            failed = c.apply-reply.ensures.failed;
            cause = c.apply-reply.ensures.cause;
            usable = c.apply-reply.ensures.usable;
            shelf = c.apply-reply.ensures.shelf;
          })
          c.apply-reply.ensures.uses refl (g.W.Write.contents c.send.new.writer) (g.T.Teller.told c.tell.new.self)
          line (subst (IsEndOf c.apply-reply.result) c.in_default.is c.end_of.ensures) c.tell.ensures;
    }

pub returns : goal.returns
returns g c =
    let whole : c.loop-at.at ≡ length c.args.requests.now = omega (arith, c.loop-at-test.false, c.loop-at.auto.at-end)
    in
    all_reported g.S.Store g.H.Shelf.asks g.H.Shelf.takes g.H.Shelf.failures_of (length c.args.requests.now)
    c.args.requests.now c.loop-at.at c.args.world.now c.loop-at.world c.args.shelf.now c.loop-at.shelf
    (g.W.Write.contents c.args.writer.now) (g.W.Write.contents c.loop-at.writer)
    (g.T.Teller.told c.args.teller.now) (g.T.Teller.told c.loop-at.teller) c.loop-at.invariant.so_far whole tt
