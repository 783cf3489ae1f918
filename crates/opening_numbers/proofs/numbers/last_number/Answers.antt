-- Each fault asks for its own.
use Rattle.std.specs.Prelude.{IfOk}
use Rattle.std.proofs.Common.{sym, subst}
use Rattle.opening_numbers.specs.Numbers.{IsLast, Names}
use Rattle.opening_numbers.proofs.numbers.last_number.Goals as goal

pub returns-in-TwoCopies : goal.returns-in-TwoCopies
returns-in-TwoCopies c =
    subst (λ f. IfOk c.number_of_split.result (IsLast (Names c.args.sights.now f))) (sym c.in-TwoCopies.is)
    c.number_of_split.ensures

pub returns-in-MissingPackage : goal.returns-in-MissingPackage
returns-in-MissingPackage c =
    subst (λ f. IfOk c.number_of_split-in-MissingPackage.result (IsLast (Names c.args.sights.now f)))
    (sym c.in-MissingPackage.is) c.number_of_split-in-MissingPackage.ensures

pub returns-in-ForeignFrame : goal.returns-in-ForeignFrame
returns-in-ForeignFrame c =
    subst (λ f. IfOk c.number_of_split-in-ForeignFrame.result (IsLast (Names c.args.sights.now f)))
    (sym c.in-ForeignFrame.is) c.number_of_split-in-ForeignFrame.ensures

pub returns-in-Altered : goal.returns-in-Altered
returns-in-Altered c =
    subst (λ f. IsLast (Names c.args.sights.now f) c.number_of_addition.result) (sym c.in-Altered.is)
    c.number_of_addition.ensures
