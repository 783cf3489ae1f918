-- Packages in order are seen, so their account is that of the world; each part of it is judged.
use Rattle.std.proofs.Common.{◌≡◌}
use Rattle.sheet_types.specs.Ordered.{arranged}
use Rattle.sheet_types.specs.World.{World}
use Rattle.opening_verdict.specs.Accounts.{sight_key, taken, IsWorldOf, IsLastOf}
use Rattle.opening_verdict.proofs.Lists.{err_same}
use Rattle.opening_verdict.proofs.InAccount.{accounted}
use Rattle.opening_verdict.proofs.accounting.ledger_in_account.Goals as goal

pub returns-in_err-check_balance-clause-fault : goal.returns-in_err-check_balance-clause-fault
returns-in_err-check_balance-clause-fault c =
    let all = arranged sight_key (taken c.args.live.now c.args.held.items) in
    err_same (λ fault. (w : World) → IsWorldOf all w → IsLastOf w fault)
    c.from_residual-in_err-check_balance.result
    c.in_err-check_balance.field-0.0 c.from_residual-in_err-check_balance.ensures.1
    (λ w is. c.in_err-check_balance.ensures.fault w (accounted all c.in_ok-sorted.sorted.items c.as_slice.result.now
    c.in_ok-account.account c.in_ok-sorted.ensures c.as_slice.ensures.value c.in_ok-account.ensures
    c.in_ok-check_apart.ensures.apart w is))

pub returns-in_err-check_altered-clause-fault : goal.returns-in_err-check_altered-clause-fault
returns-in_err-check_altered-clause-fault c =
    let all = arranged sight_key (taken c.args.live.now c.args.held.items) in
    let of = accounted all c.in_ok-sorted.sorted.items c.as_slice.result.now c.in_ok-account.account
    c.in_ok-sorted.ensures c.as_slice.ensures.value c.in_ok-account.ensures c.in_ok-check_apart.ensures.apart in
    err_same (λ fault. (w : World) → IsWorldOf all w → IsLastOf w fault)
    c.from_residual-in_err-check_altered.result
    c.in_err-check_altered.field-0.0 c.from_residual-in_err-check_altered.ensures.1
    (λ w is. c.in_err-check_altered.ensures.fault w (of w is) (c.in_ok-check_balance.ensures.balanced w (of w is)))

pub returns-clause-ledger : goal.returns-clause-ledger
returns-clause-ledger c = λ w is.
    let all = arranged sight_key (taken c.args.live.now c.args.held.items) in
    let of = accounted all c.in_ok-sorted.sorted.items c.as_slice.result.now c.in_ok-account.account
    c.in_ok-sorted.ensures c.as_slice.ensures.value c.in_ok-account.ensures c.in_ok-check_apart.ensures.apart w is in
    record {
      apart = of.seen.held.in_order;
      balanced = c.in_ok-check_balance.ensures.balanced w of;
      unaltered = c.in_ok-check_altered.ensures.unaltered w of;
      whole = of.seen.whole;
    }
