-- A split made it where a package has the receipt, and each is asked until one does.
use Rattle.std.proofs.Common.{◌≡◌, ◌≤◌, ◌∙◌, sym, ap, Ok, length, arith, true, false}
use Rattle.sheet_types.proofs.Every.{none_any}
use Rattle.sheet_types.proofs.Same.{any_in}
use Rattle.custody.specs.Receipts.{was_lent}
use Rattle.world_members.specs.Register.{ever_lent}
use Rattle.world_queries.proofs.Asked.{asked_none, asked_one, asked_all, asked_here, asked_fails}
use Rattle.world_members.proofs.EachPackage.{lent_in_packages}
use Rattle.world_queries.proofs.asking.was_lent_in_all.Goals as goal

pub loop-at-init : goal.loop-at-init
loop-at-init g c = record {
  asked = asked_none g.S.Store g.met.S.Store.shut_if_dirty g.met.S.Store.settled
      (λ p. was_lent p c.args.id ≡ false) c.args.members.now.items c.requires;
}

pub returns-in_err-lent_by : goal.returns-in_err-lent_by
returns-in_err-lent_by g c =
    asked_fails g.S.Store g.met.S.Store.shut_if_dirty g.met.S.Store.settled
    (λ f p found. found ≡ was_lent p c.args.id) (λ p. was_lent p c.args.id ≡ false) _ _ _ _ _
    c.loop-at.invariant.asked c.lent_by.ensures.looked (λ w found. found ≡ ever_lent w c.args.id) _
    c.from_residual.ensures.0

pub returns-then-branch : goal.returns-then-branch
returns-then-branch g c =
    asked_here g.S.Store g.met.S.Store.shut_if_dirty g.met.S.Store.settled
    (λ f p found. found ≡ was_lent p c.args.id)
    (λ p. was_lent p c.args.id ≡ false) _ _ _ _ _ c.loop-at.invariant.asked c.lent_by.ensures.looked
    (λ w found. found ≡ ever_lent w c.args.id) true true (c.in_ok-lent_by.was ∙ ap Ok c.if-branch.true)
    (λ w p register there told. sym (lent_in_packages w c.args.id
    ∙ any_in (λ x. was_lent x c.args.id) p w.packages there (sym told)))

pub loop-at-preserved : goal.loop-at-preserved
loop-at-preserved g c = record {
  asked = asked_one g.S.Store g.met.S.Store.shut_if_dirty g.met.S.Store.settled
      (λ f p found. found ≡ was_lent p c.args.id) (λ p. was_lent p c.args.id ≡ false) _ _ _ _ _
      c.loop-at.invariant.asked c.lent_by.ensures.looked false (c.in_ok-lent_by.was ∙ ap Ok c.if-branch.false)
      (λ f p told. sym told);
}

pub returns : goal.returns
returns g c =
    let past : length c.args.members.now.items ≤ c.loop-at.at =
    omega (arith, c.len-at-end.ensures, c.loop-at-test.false) in
    asked_all g.S.Store (λ p. was_lent p c.args.id ≡ false) (λ w found. found ≡ ever_lent w c.args.id) _ _ _
    false past
    (λ w register each. sym (lent_in_packages w c.args.id ∙ none_any (λ x. was_lent x c.args.id) w.packages each))
    c.loop-at.invariant.asked
