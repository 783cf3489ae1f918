use Rattle.std.proofs.Common.{◌∙◌, ◌++◌, subst}
use Rattle.sha2.specs.Hashers.{Holds256}
use Rattle.view_report.proofs.digests.add_receipt.Goals as goal

pub returns : goal.returns
returns c = λ m holds.
    subst (λ line. Holds256 c.update.new.self (m ++ line)) (c.as_slice.ensures.value ∙ c.in_ok-next.ensures)
    (c.update.ensures m holds)
