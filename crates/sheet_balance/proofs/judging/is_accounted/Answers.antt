-- Five parts, each judged by itself.
use Rattle.std.proofs.Common.{sym, subst, []}
use Rattle.sheet_types.specs.Balance.{IsLedger, archive_of}
use Rattle.sheet_balance.proofs.Judged.{five_parts, held_by}
use Rattle.sheet_balance.proofs.judging.is_accounted.Goals as goal

pub returns : goal.returns
returns c = λ w is sound.
    let seen = held_by c.args.account.now c.as_slice-ledger.result.now c.as_slice-holders.result.now w is
    c.as_slice-ledger.ensures.value c.as_slice-holders.ensures.value in
    five_parts c.in_ok-custody.custody c.in_ok-sums.sums c.in_ok-loans.loans c.in_ok-homes.homes
    c.args.account.now.together w
    (c.in_ok-custody.ensures w seen) (c.in_ok-sums.ensures w seen) (c.in_ok-loans.ensures w seen is.splits)
    (c.in_ok-homes.ensures w seen (subst (IsLedger (archive_of w) []) (sym c.as_slice-ledger.ensures.value) sound))
    is.together
