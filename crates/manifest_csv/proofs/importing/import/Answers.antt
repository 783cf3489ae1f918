-- The list is read, and then carried out.
use Rattle.std.proofs.Common.{refl, sym, subst, IfSome}
use Rattle.request_csv.specs.RequestLists.{IsList}
use Rattle.world.proofs.ChangesMade.{turned_into}
use Rattle.manifest_csv.specs.Imports.{ImportsWith}
use Rattle.manifest_csv.specs.declared.importing.ImportFault.TheVariants.{Unread}
use Rattle.manifest_csv.proofs.ProgressFacts.{nothing_told}
use Rattle.manifest_csv.proofs.importing.import.Goals as goal

pub returns-clause-imported : goal.returns-clause-imported
returns-clause-imported g c =
    c.carry_out.ensures.imported (g.R.Read.remaining c.args.reader)
    (subst (λ qs. IfSome (g.R.Read.remaining c.args.reader) (λ t. IsList t qs)) (sym c.as_slice.ensures.value)
    c.in_ok-requests.ensures.list)

pub returns-in_err-requests-clause-along : goal.returns-in_err-requests-clause-along
returns-in_err-requests-clause-along g c =
    subst (ImportsWith g.S.Store g.H.Shelf.asks g.H.Shelf.takes g.H.Shelf.failures_of
    (g.R.Read.remaining c.args.reader) c.args.world.now c.args.world.now c.args.shelf.now c.args.shelf.now
    (g.W.Write.contents c.args.writer.now) (g.W.Write.contents c.args.writer.now)
    (g.T.Teller.told c.args.teller.now) (g.T.Teller.told c.args.teller.now))
    (sym (turned_into c.from_residual.result (Unread c.in_err-requests.field-0.0) c.from_residual.ensures.1))
    (refl, nothing_told (g.T.Teller.told c.args.teller.now))

pub returns-clause-along : goal.returns-clause-along
returns-clause-along g c =
    c.carry_out.ensures.along (g.R.Read.remaining c.args.reader)
    (subst (λ qs. IfSome (g.R.Read.remaining c.args.reader) (λ t. IsList t qs)) (sym c.as_slice.ensures.value)
    c.in_ok-requests.ensures.list)
