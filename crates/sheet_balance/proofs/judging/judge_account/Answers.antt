-- Without an archive nothing is seen so; without a sound ledger no world is balanced.
use Rattle.std.proofs.Common.{◌↔◌, [], IsTrue, subst, sym}
use Rattle.sheet_ledger.proofs.Walking.{says_no}
use Rattle.sheet_types.specs.Balance.{IsLedger}
use Rattle.sheet_balance.specs.Holders.{IsHeld}
use Rattle.sheet_balance.proofs.Judged.{seen_one, none_seen, not_sound, judged, if_ok}
use Rattle.sheet_balance.proofs.judging.judge_account.Goals as goal

pub returns-in_default : goal.returns-in_default
returns-in_default c = λ w is. says_no (λ b. none_seen c.archive_of.result w c.in_default.is
    (c.archive_of.ensures w (subst (λ hs. IsHeld hs w) (sym c.as_slice.ensures.value) is.seen.held)))

pub returns-then-not-branch : goal.returns-then-not-branch
returns-then-not-branch c = λ w is.
    says_no (not_sound w c.in-Some.archive c.args.account.now.ledger.items c.in_ok-is_sound.field-0
    (seen_one c.in-Some.archive c.archive_of.result w c.in-Some.is
    (c.archive_of.ensures w (subst (λ hs. IsHeld hs w) (sym c.as_slice.ensures.value) is.seen.held))) is.seen.whole
    (subst (λ rs. IsTrue c.in_ok-is_sound.field-0 ↔ IsLedger c.in-Some.archive [] rs) c.as_slice-2.ensures.value
    c.in_ok-is_sound.ensures) c.if-not-branch.true)

pub returns : goal.returns
returns c =
    if_ok c.is_accounted.result _ _
    (λ accounted said w is.
    judged w c.in-Some.archive c.args.account.now.ledger.items c.in_ok-is_sound.field-0 accounted
    (seen_one c.in-Some.archive c.archive_of.result w c.in-Some.is
    (c.archive_of.ensures w (subst (λ hs. IsHeld hs w) (sym c.as_slice.ensures.value) is.seen.held))) is.seen.whole
    (subst (λ rs. IsTrue c.in_ok-is_sound.field-0 ↔ IsLedger c.in-Some.archive [] rs) c.as_slice-2.ensures.value
    c.in_ok-is_sound.ensures) c.if-not-branch.false (said w is))
    c.is_accounted.ensures
