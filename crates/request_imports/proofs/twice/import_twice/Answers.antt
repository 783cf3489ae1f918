-- The list is judged, its header read again, and then it is carried out.
use Rattle.std.proofs.Common.{◌∙◌, inl, inr, refl, sym, subst}
use Rattle.std.specs.Io.KnownBytes.{Appends}
use Rattle.world.proofs.ChangesMade.{turned_into}
use Rattle.request_csv.specs.declared.lists.ReadFault.TheVariants.{Memory}
use Rattle.manifest_csv.specs.Reports.{report_header}
use Rattle.manifest_csv.specs.Sent.{WentOut}
use Rattle.request_imports.specs.Twice.{ImportsTwice, ImportsTwiceWith}
use Rattle.manifest_csv.specs.declared.importing.ImportFault.TheVariants.{Unread, Unwritten}
use Rattle.request_imports.specs.declared.twice.TwiceFault.TheVariants.{Import}
use Rattle.request_imports.proofs.OnceFacts.{once_of}
use Rattle.manifest_csv.proofs.ProgressFacts.{nothing_told}
use Rattle.request_imports.proofs.TwiceFacts.{goes_twice, reported_twice, unread_again, untold_twice, unwritten_twice}
use Rattle.request_imports.proofs.twice.import_twice.Goals as goal

pub returns-in_err-count-clause-imported : goal.returns-in_err-count-clause-imported
returns-in_err-count-clause-imported g c =
    subst (ImportsTwice g.S.Store (g.Q.Read.remaining c.args.first) (g.Q.Read.remaining c.args.second)
    c.args.world.now c.args.world.now (g.H.Shelf.failures_of c.args.shelf.now)
    (g.H.Shelf.failures_of c.args.shelf.now) c.args.writer.now c.args.writer.now
    (g.W.Write.contents c.args.writer.now) (g.W.Write.contents c.args.writer.now))
    (sym (turned_into c.from_residual.result (Import (Unread c.in_err-count.field-0.0)) c.from_residual.ensures.1))
    (inl (c.in_err-count.field-0.0, refl, inl c.in_err-count.ensures.fault, refl, refl, refl))

pub returns-in_err-list-clause-imported : goal.returns-in_err-list-clause-imported
returns-in_err-list-clause-imported g c =
    subst (ImportsTwice g.S.Store (g.Q.Read.remaining c.args.first) (g.Q.Read.remaining c.args.second)
    c.args.world.now c.args.world.now (g.H.Shelf.failures_of c.args.shelf.now)
    (g.H.Shelf.failures_of c.args.shelf.now) c.args.writer.now c.args.writer.now
    (g.W.Write.contents c.args.writer.now) (g.W.Write.contents c.args.writer.now))
    (sym (turned_into c.from_residual-in_err-list.result (Import (Unread c.in_err-list.field-0.0))
    c.from_residual-in_err-list.ensures.1))
    (inl (
      c.in_err-list.field-0.0,
      refl,
      inr (unread_again g.Q.ListSource.never_fails
          (g.Q.Read.remaining c.args.second) c.in_err-list.field-0.0 c.in_err-list.ensures.fault),
      refl,
      refl,
      refl,
    ))

pub returns-in_default-clause-imported : goal.returns-in_default-clause-imported
returns-in_default-clause-imported g c = inl (Memory, refl, inl (inr (inl refl)), refl, refl, refl)

pub returns-in_err-send-clause-imported : goal.returns-in_err-send-clause-imported
returns-in_err-send-clause-imported g c =
    let header : WentOut (g.W.Write.contents c.args.writer.now) (g.W.Write.contents c.send.new.writer) report_header =
    subst (WentOut (g.W.Write.contents c.args.writer.now) (g.W.Write.contents c.send.new.writer))
    (c.as_bytes.ensures.value ∙ c.header_line.ensures) c.in_err-send.ensures.err in
    subst (ImportsTwice g.S.Store (g.Q.Read.remaining c.args.first) (g.Q.Read.remaining c.args.second)
    c.args.world.now c.args.world.now (g.H.Shelf.failures_of c.args.shelf.now)
    (g.H.Shelf.failures_of c.args.shelf.now) c.args.writer.now c.send.new.writer
    (g.W.Write.contents c.args.writer.now) (g.W.Write.contents c.send.new.writer))
    (sym (turned_into c.from_residual-in_err-send.result (Import Unwritten) c.from_residual-in_err-send.ensures.1))
    (unwritten_twice g.S.Store g.Q.Read.remaining g.H.Shelf.asks g.H.Shelf.takes g.H.Shelf.failures_of
    (g.Q.Read.remaining c.args.first)
    (g.Q.Read.remaining c.args.second) c.in_ok-count.count c.in_ok-list.list c.args.world.now c.args.shelf.now
    (g.W.Write.contents c.args.writer.now) (g.W.Write.contents c.send.new.writer)
    (g.T.Teller.told c.args.teller.now) c.in_ok-count.ensures.list c.in_ok-list.ensures.stands header
    c.args.writer.now c.send.new.writer)

pub returns-clause-imported : goal.returns-clause-imported
returns-clause-imported g c =
    let header : Appends (g.W.Write.contents c.args.writer.now) (g.W.Write.contents c.send.new.writer) report_header =
    subst (Appends (g.W.Write.contents c.args.writer.now) (g.W.Write.contents c.send.new.writer))
    (c.as_bytes.ensures.value ∙ c.header_line.ensures) c.in_ok-send.ensures.ok in
    reported_twice g.S.Store g.Q.Read.remaining g.H.Shelf.asks g.H.Shelf.takes g.H.Shelf.failures_of
    (g.Q.Read.remaining c.args.first)
    (g.Q.Read.remaining c.args.second) c.in_ok-count.count c.in_ok-list.list c.args.world.now
    c.report_read.new.world c.args.shelf.now c.report_read.new.shelf (g.W.Write.contents c.args.writer.now)
    (g.W.Write.contents c.send.new.writer) (g.W.Write.contents c.report_read.new.writer)
    (g.T.Teller.told c.args.teller.now) (g.T.Teller.told c.report_read.new.teller) c.report_read.result
    c.in_ok-list.ensures.stands c.in_ok-count.ensures.list header c.report_read.ensures
    c.args.writer.now c.report_read.new.writer

pub returns-in_err-count-clause-once : goal.returns-in_err-count-clause-once
returns-in_err-count-clause-once g c = once_of g.S.Store c.args.world.now c.args.world.now
    (g.H.Shelf.failures_of c.args.shelf.now) (g.H.Shelf.failures_of c.args.shelf.now) c.args.writer.now
    c.args.writer.now (g.W.Write.contents c.args.writer.now) (g.W.Write.contents c.args.writer.now)
    (g.Q.Read.remaining c.args.first) (g.Q.Read.remaining c.args.second) c.from_residual.result
    (returns-in_err-count-clause-imported g c)

pub returns-in_err-list-clause-once : goal.returns-in_err-list-clause-once
returns-in_err-list-clause-once g c = once_of g.S.Store c.args.world.now c.args.world.now
    (g.H.Shelf.failures_of c.args.shelf.now) (g.H.Shelf.failures_of c.args.shelf.now) c.args.writer.now
    c.args.writer.now (g.W.Write.contents c.args.writer.now) (g.W.Write.contents c.args.writer.now)
    (g.Q.Read.remaining c.args.first) (g.Q.Read.remaining c.args.second) c.from_residual-in_err-list.result
    (returns-in_err-list-clause-imported g c)

pub returns-in_default-clause-once : goal.returns-in_default-clause-once
returns-in_default-clause-once g c = once_of g.S.Store c.args.world.now c.args.world.now
    (g.H.Shelf.failures_of c.args.shelf.now) (g.H.Shelf.failures_of c.args.shelf.now) c.args.writer.now
    c.args.writer.now (g.W.Write.contents c.args.writer.now) (g.W.Write.contents c.args.writer.now)
    (g.Q.Read.remaining c.args.first) (g.Q.Read.remaining c.args.second) _ (returns-in_default-clause-imported g c)

pub returns-in_err-send-clause-once : goal.returns-in_err-send-clause-once
returns-in_err-send-clause-once g c = once_of g.S.Store c.args.world.now c.args.world.now
    (g.H.Shelf.failures_of c.args.shelf.now) (g.H.Shelf.failures_of c.args.shelf.now) c.args.writer.now
    c.send.new.writer (g.W.Write.contents c.args.writer.now) (g.W.Write.contents c.send.new.writer)
    (g.Q.Read.remaining c.args.first) (g.Q.Read.remaining c.args.second) c.from_residual-in_err-send.result
    (returns-in_err-send-clause-imported g c)

pub returns-clause-once : goal.returns-clause-once
returns-clause-once g c = once_of g.S.Store c.args.world.now c.report_read.new.world
    (g.H.Shelf.failures_of c.args.shelf.now) (g.H.Shelf.failures_of c.report_read.new.shelf) c.args.writer.now
    c.report_read.new.writer (g.W.Write.contents c.args.writer.now) (g.W.Write.contents c.report_read.new.writer)
    (g.Q.Read.remaining c.args.first) (g.Q.Read.remaining c.args.second) c.report_read.result
    (returns-clause-imported g c)

pub returns-in_err-count-clause-along : goal.returns-in_err-count-clause-along
returns-in_err-count-clause-along g c = inl (
  (
    c.in_err-count.field-0.0,
    turned_into c.from_residual.result
        (Import (Unread c.in_err-count.field-0.0)) c.from_residual.ensures.1,
  ),
  refl,
  nothing_told (g.T.Teller.told c.args.teller.now),
)

pub returns-in_err-list-clause-along : goal.returns-in_err-list-clause-along
returns-in_err-list-clause-along g c = inl (
  (
    c.in_err-list.field-0.0,
    turned_into c.from_residual-in_err-list.result
        (Import (Unread c.in_err-list.field-0.0)) c.from_residual-in_err-list.ensures.1,
  ),
  refl,
  nothing_told (g.T.Teller.told c.args.teller.now),
)

pub returns-in_default-clause-along : goal.returns-in_default-clause-along
returns-in_default-clause-along g c =
    inl ((Memory, refl), refl, nothing_told (g.T.Teller.told c.args.teller.now))

pub returns-in_err-send-clause-along : goal.returns-in_err-send-clause-along
returns-in_err-send-clause-along g c =
    let header : WentOut (g.W.Write.contents c.args.writer.now) (g.W.Write.contents c.send.new.writer) report_header =
    subst (WentOut (g.W.Write.contents c.args.writer.now) (g.W.Write.contents c.send.new.writer))
    (c.as_bytes.ensures.value ∙ c.header_line.ensures) c.in_err-send.ensures.err in
    subst (ImportsTwiceWith g.S.Store g.H.Shelf.asks g.H.Shelf.takes g.H.Shelf.failures_of
    (g.Q.Read.remaining c.args.first) (g.Q.Read.remaining c.args.second) c.args.world.now c.args.world.now
    c.args.shelf.now c.args.shelf.now (g.W.Write.contents c.args.writer.now) (g.W.Write.contents c.send.new.writer)
    (g.T.Teller.told c.args.teller.now) (g.T.Teller.told c.args.teller.now))
    (sym (turned_into c.from_residual-in_err-send.result (Import Unwritten) c.from_residual-in_err-send.ensures.1))
    (untold_twice g.S.Store g.Q.Read.remaining g.H.Shelf.asks g.H.Shelf.takes g.H.Shelf.failures_of
    (g.Q.Read.remaining c.args.first)
    (g.Q.Read.remaining c.args.second) c.in_ok-count.count c.in_ok-list.list c.args.world.now c.args.shelf.now
    (g.W.Write.contents c.args.writer.now) (g.W.Write.contents c.send.new.writer)
    (g.T.Teller.told c.args.teller.now) c.in_ok-count.ensures.list c.in_ok-list.ensures.stands header)

pub returns-clause-along : goal.returns-clause-along
returns-clause-along g c =
    let header : Appends (g.W.Write.contents c.args.writer.now) (g.W.Write.contents c.send.new.writer) report_header =
    subst (Appends (g.W.Write.contents c.args.writer.now) (g.W.Write.contents c.send.new.writer))
    (c.as_bytes.ensures.value ∙ c.header_line.ensures) c.in_ok-send.ensures.ok in
    goes_twice g.S.Store g.Q.Read.remaining g.H.Shelf.asks g.H.Shelf.takes g.H.Shelf.failures_of
    (g.Q.Read.remaining c.args.first)
    (g.Q.Read.remaining c.args.second) c.in_ok-count.count c.in_ok-list.list c.args.world.now
    c.report_read.new.world c.args.shelf.now c.report_read.new.shelf (g.W.Write.contents c.args.writer.now)
    (g.W.Write.contents c.send.new.writer) (g.W.Write.contents c.report_read.new.writer)
    (g.T.Teller.told c.args.teller.now) (g.T.Teller.told c.report_read.new.teller) c.report_read.result
    c.in_ok-list.ensures.stands c.in_ok-count.ensures.list header c.report_read.ensures
