-- The header goes out, and then the lines.
use Rattle.std.proofs.Common.{◌∙◌, length, refl, sym, subst}
use Rattle.std.specs.Io.KnownBytes.{Appends}
use Rattle.manifest_csv.specs.Imports.{IsCarried, Imports, ImportsWith}
use Rattle.manifest_csv.specs.Reports.{report_header}
use Rattle.manifest_csv.specs.Sent.{WentOut}
use Rattle.manifest_csv.specs.declared.importing.ImportFault.TheVariants.{Unwritten}
use Rattle.world.proofs.ChangesMade.{turned_into}
use Rattle.manifest_csv.proofs.ImportFacts.{after_header, carried, header_unwritten, imported, imported_with}
use Rattle.manifest_csv.proofs.ProgressFacts.{nothing_told}
use Rattle.manifest_csv.proofs.importing.carry_out.Goals as goal

pub returns-in_err-send-clause-carried : goal.returns-in_err-send-clause-carried
returns-in_err-send-clause-carried g c =
    let header : WentOut (g.W.Write.contents c.args.writer.now) (g.W.Write.contents c.send.new.writer) report_header =
    subst (WentOut (g.W.Write.contents c.args.writer.now) (g.W.Write.contents c.send.new.writer))
    (c.as_bytes.ensures.value ∙ c.header_line.ensures) c.in_err-send.ensures.err in
    subst (IsCarried g.S.Store c.args.requests.now c.args.world.now c.args.world.now
    (g.H.Shelf.failures_of c.args.shelf.now) (g.H.Shelf.failures_of c.args.shelf.now)
    (g.W.Write.contents c.args.writer.now) (g.W.Write.contents c.send.new.writer))
    (sym (turned_into c.from_residual.result Unwritten c.from_residual.ensures.1))
    (header_unwritten g.S.Store g.H.Shelf.asks g.H.Shelf.takes g.H.Shelf.failures_of (length c.args.requests.now)
    c.args.requests.now c.args.world.now c.args.shelf.now (g.W.Write.contents c.args.writer.now)
    (g.W.Write.contents c.send.new.writer) (g.T.Teller.told c.args.teller.now) header).0

pub returns-clause-carried : goal.returns-clause-carried
returns-clause-carried g c =
    let header : Appends (g.W.Write.contents c.args.writer.now) (g.W.Write.contents c.send.new.writer) report_header =
    subst (Appends (g.W.Write.contents c.args.writer.now) (g.W.Write.contents c.send.new.writer))
    (c.as_bytes.ensures.value ∙ c.header_line.ensures) c.in_ok-send.ensures.ok in
    carried g.S.Store c.args.requests.now c.args.world.now c.report_each.new.world
    (g.H.Shelf.failures_of c.args.shelf.now) (g.H.Shelf.failures_of c.report_each.new.shelf)
    (g.W.Write.contents c.args.writer.now) (g.W.Write.contents c.report_each.new.writer) c.report_each.result
    (after_header g.S.Store g.H.Shelf.asks g.H.Shelf.takes g.H.Shelf.failures_of (length c.args.requests.now)
    c.args.requests.now c.args.world.now c.report_each.new.world c.args.shelf.now c.report_each.new.shelf
    (g.W.Write.contents c.args.writer.now) (g.W.Write.contents c.send.new.writer)
    (g.W.Write.contents c.report_each.new.writer) (g.T.Teller.told c.args.teller.now)
    (g.T.Teller.told c.report_each.new.teller) c.report_each.result header c.report_each.ensures).0

pub returns-in_err-send-clause-imported : goal.returns-in_err-send-clause-imported
returns-in_err-send-clause-imported g c = λ text list.
    let header : WentOut (g.W.Write.contents c.args.writer.now) (g.W.Write.contents c.send.new.writer) report_header =
    subst (WentOut (g.W.Write.contents c.args.writer.now) (g.W.Write.contents c.send.new.writer))
    (c.as_bytes.ensures.value ∙ c.header_line.ensures) c.in_err-send.ensures.err in
    subst (Imports g.S.Store text c.args.world.now c.args.world.now (g.H.Shelf.failures_of c.args.shelf.now)
    (g.H.Shelf.failures_of c.args.shelf.now) c.args.writer.now c.send.new.writer
    (g.W.Write.contents c.args.writer.now) (g.W.Write.contents c.send.new.writer))
    (sym (turned_into c.from_residual.result Unwritten c.from_residual.ensures.1)) (
      c.args.requests.now,
      list,
      (header_unwritten g.S.Store g.H.Shelf.asks g.H.Shelf.takes g.H.Shelf.failures_of (length c.args.requests.now)
          c.args.requests.now c.args.world.now c.args.shelf.now (g.W.Write.contents c.args.writer.now)
          (g.W.Write.contents c.send.new.writer) (g.T.Teller.told c.args.teller.now) header).0,
    )

pub returns-clause-imported : goal.returns-clause-imported
returns-clause-imported g c = λ text list.
    let header : Appends (g.W.Write.contents c.args.writer.now) (g.W.Write.contents c.send.new.writer) report_header =
    subst (Appends (g.W.Write.contents c.args.writer.now) (g.W.Write.contents c.send.new.writer))
    (c.as_bytes.ensures.value ∙ c.header_line.ensures) c.in_ok-send.ensures.ok in
    imported g.S.Store text c.args.requests.now c.args.world.now c.report_each.new.world
    (g.H.Shelf.failures_of c.args.shelf.now) (g.H.Shelf.failures_of c.report_each.new.shelf) c.args.writer.now
    c.report_each.new.writer (g.W.Write.contents c.args.writer.now) (g.W.Write.contents c.report_each.new.writer)
    c.report_each.result list
    (after_header g.S.Store g.H.Shelf.asks g.H.Shelf.takes g.H.Shelf.failures_of (length c.args.requests.now)
    c.args.requests.now c.args.world.now c.report_each.new.world c.args.shelf.now c.report_each.new.shelf
    (g.W.Write.contents c.args.writer.now) (g.W.Write.contents c.send.new.writer)
    (g.W.Write.contents c.report_each.new.writer) (g.T.Teller.told c.args.teller.now)
    (g.T.Teller.told c.report_each.new.teller) c.report_each.result header c.report_each.ensures).0

pub returns-in_default-clause-along : goal.returns-in_default-clause-along
returns-in_default-clause-along g c = λ text list. (refl, nothing_told (g.T.Teller.told c.args.teller.now))

pub returns-in_err-send-clause-along : goal.returns-in_err-send-clause-along
returns-in_err-send-clause-along g c = λ text list.
    let header : WentOut (g.W.Write.contents c.args.writer.now) (g.W.Write.contents c.send.new.writer) report_header =
    subst (WentOut (g.W.Write.contents c.args.writer.now) (g.W.Write.contents c.send.new.writer))
    (c.as_bytes.ensures.value ∙ c.header_line.ensures) c.in_err-send.ensures.err in
    subst (ImportsWith g.S.Store g.H.Shelf.asks g.H.Shelf.takes g.H.Shelf.failures_of text c.args.world.now
    c.args.world.now c.args.shelf.now c.args.shelf.now (g.W.Write.contents c.args.writer.now)
    (g.W.Write.contents c.send.new.writer) (g.T.Teller.told c.args.teller.now) (g.T.Teller.told c.args.teller.now))
    (sym (turned_into c.from_residual.result Unwritten c.from_residual.ensures.1)) (
      c.args.requests.now,
      list,
      header_unwritten g.S.Store g.H.Shelf.asks g.H.Shelf.takes g.H.Shelf.failures_of (length c.args.requests.now)
          c.args.requests.now c.args.world.now c.args.shelf.now (g.W.Write.contents c.args.writer.now)
          (g.W.Write.contents c.send.new.writer) (g.T.Teller.told c.args.teller.now) header,
    )

pub returns-clause-along : goal.returns-clause-along
returns-clause-along g c = λ text list.
    let header : Appends (g.W.Write.contents c.args.writer.now) (g.W.Write.contents c.send.new.writer) report_header =
    subst (Appends (g.W.Write.contents c.args.writer.now) (g.W.Write.contents c.send.new.writer))
    (c.as_bytes.ensures.value ∙ c.header_line.ensures) c.in_ok-send.ensures.ok in
    imported_with g.S.Store g.H.Shelf.asks g.H.Shelf.takes g.H.Shelf.failures_of text c.args.requests.now
    c.args.world.now c.report_each.new.world c.args.shelf.now c.report_each.new.shelf
    (g.W.Write.contents c.args.writer.now) (g.W.Write.contents c.report_each.new.writer)
    (g.T.Teller.told c.args.teller.now) (g.T.Teller.told c.report_each.new.teller) c.report_each.result list
    (after_header g.S.Store g.H.Shelf.asks g.H.Shelf.takes g.H.Shelf.failures_of (length c.args.requests.now)
    c.args.requests.now c.args.world.now c.report_each.new.world c.args.shelf.now c.report_each.new.shelf
    (g.W.Write.contents c.args.writer.now) (g.W.Write.contents c.send.new.writer)
    (g.W.Write.contents c.report_each.new.writer) (g.T.Teller.told c.args.teller.now)
    (g.T.Teller.told c.report_each.new.teller) c.report_each.result header c.report_each.ensures)
