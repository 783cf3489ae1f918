-- One claim more.
use Rattle.std.proofs.Common.{◌≡◌, sym, subst, rules, ◌+◌, take}
use Rattle.std.specs.Prelude.{max}
use Rattle.std.proofs.lemmas.List.{take_all}
use Rattle.sheet_ledger.proofs.Walking.{one_more}
use Rattle.opening_numbers.specs.Numbers.{Among, IsLast, IsOfAddition}
use Rattle.opening_numbers.proofs.Lasting.{among_more}
use Rattle.opening_numbers.proofs.numbers.last_addition_in.Goals as goal

pub loop-claim-preserved : goal.loop-claim-preserved
loop-claim-preserved c =
    let i = c.loop-claim.claim-index in
    let claims = c.args.claims.now in
    let it = c.claim-item.result in
    let top : c.max-last.result ≡ max c.loop-claim.last c.addition_number.result = search rules in
    subst (IsLast (Among (IsOfAddition c.args.id) (take (i + 1) claims))) (sym top)
    (among_more (IsOfAddition c.args.id) (take i claims) (take (i + 1) claims) it
    (one_more claims i it c.loop-claim-test.true c.claim-item.is) c.loop-claim.last c.addition_number.result
    c.loop-claim.invariant c.addition_number.ensures)

pub returns : goal.returns
returns c =
    subst (λ claims. IsLast (Among (IsOfAddition c.args.id) claims) c.loop-claim.last)
    (take_all c.loop-claim.claim-index c.args.claims.now c.loop-claim-test.false) c.loop-claim.invariant
