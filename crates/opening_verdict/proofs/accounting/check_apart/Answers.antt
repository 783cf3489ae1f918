-- What does not rise is no world whose packages are apart.
use Rattle.std.proofs.Common.{sym, ◌∙◌, inl}
use Rattle.std.proofs.lemmas.Bool.{false≢true}
use Rattle.opening_verdict.proofs.InAccount.{arranged_same}
use Rattle.opening_verdict.proofs.accounting.check_apart.Goals as goal

pub returns-then-not-do_rise-clause-fault : goal.returns-then-not-do_rise-clause-fault
returns-then-not-do_rise-clause-fault c = λ w is.
    inl (λ apart. false≢true (sym c.if-not-do_rise.true ∙ c.do_rise.ensures.1
    ((arranged_same c.args.sights.now w.packages is.packages).1 apart)))
