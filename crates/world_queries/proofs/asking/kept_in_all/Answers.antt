-- The receipt that a package has is the one that is kept, and each is asked until one has it.
use Rattle.std.proofs.Common.{◌≡◌, ◌≤◌, ◌∙◌, sym, ap, Ok, Some, None, length, arith}
use Rattle.sheet_types.proofs.Same.{Contains-In}
use Rattle.sheet_types.specs.Custody.{kept}
use Rattle.custody.specs.Receipts.{IsKept}
use Rattle.world_queries.proofs.Asked.{asked_none, asked_one, asked_all, asked_here, asked_fails}
use Rattle.world_members.proofs.EachPackage.{none_is_kept, kept_is_there}
use Rattle.world_queries.proofs.asking.kept_in_all.Goals as goal

pub loop-at-init : goal.loop-at-init
loop-at-init g c = record {
  asked = asked_none g.S.Store g.met.S.Store.shut_if_dirty g.met.S.Store.settled
      (λ p. IsKept p c.args.id None) c.args.members.now.items c.requires;
}

pub returns-in_err-receipt : goal.returns-in_err-receipt
returns-in_err-receipt g c =
    asked_fails g.S.Store g.met.S.Store.shut_if_dirty g.met.S.Store.settled (λ f p found. IsKept p c.args.id found)
    (λ p. IsKept p c.args.id None) _ _ _ _ _ c.loop-at.invariant.asked c.kept_by.ensures.looked
    (λ w found. found ≡ kept w c.args.id) _ c.from_residual.ensures.0

pub returns-in-Some : goal.returns-in-Some
returns-in-Some g c =
    asked_here g.S.Store g.met.S.Store.shut_if_dirty g.met.S.Store.settled (λ f p found. IsKept p c.args.id found)
    (λ p. IsKept p c.args.id None) _ _ _ _ _ c.loop-at.invariant.asked c.kept_by.ensures.looked
    (λ w found. found ≡ kept w c.args.id) (Some c.in-Some.receipt) (Some c.in-Some.receipt)
    (c.in_ok-receipt.was ∙ ap Ok c.in-Some.is)
    (λ w p register there told. sym (kept_is_there w c.args.id p c.in-Some.receipt register
    (Contains-In p w.packages there) told))

pub loop-at-preserved : goal.loop-at-preserved
loop-at-preserved g c = record {
  asked = asked_one g.S.Store g.met.S.Store.shut_if_dirty g.met.S.Store.settled
      (λ f p found. IsKept p c.args.id found) (λ p. IsKept p c.args.id None) _ _ _ _ _ c.loop-at.invariant.asked
      c.kept_by.ensures.looked None (c.in_ok-receipt.was ∙ ap Ok c.in-None.is) (λ f p told. told);
}

pub returns : goal.returns
returns g c =
    let past : length c.args.members.now.items ≤ c.loop-at.at =
    omega (arith, c.len-at-end.ensures, c.loop-at-test.false) in
    asked_all g.S.Store (λ p. IsKept p c.args.id None) (λ w found. found ≡ kept w c.args.id) _ _ _ None past
    (λ w register each. sym (none_is_kept w c.args.id each)) c.loop-at.invariant.asked
