-- An identity is used where a package names it, and each is asked until one does.
use Rattle.std.proofs.Common.{◌≡◌, ◌≤◌, ◌∙◌, sym, ap, Ok, length, arith, true, false}
use Rattle.sheet_types.proofs.Every.{none_any}
use Rattle.sheet_types.proofs.Same.{any_in}
use Rattle.custody.specs.Receipts.{is_named}
use Rattle.sheet_types.specs.Custody.{is_used}
use Rattle.world_queries.proofs.Asked.{asked_none, asked_one, asked_all, asked_here, asked_fails}
use Rattle.world_members.proofs.EachPackage.{used_is_named}
use Rattle.world_queries.proofs.asking.is_named_in_all.Goals as goal

pub loop-at-init : goal.loop-at-init
loop-at-init g c = record {
  asked = asked_none g.S.Store g.met.S.Store.shut_if_dirty g.met.S.Store.settled
      (λ p. is_named p c.args.identity ≡ false) c.args.members.now.items c.requires;
}

pub returns-in_err-named_by : goal.returns-in_err-named_by
returns-in_err-named_by g c =
    asked_fails g.S.Store g.met.S.Store.shut_if_dirty g.met.S.Store.settled
    (λ f p found. found ≡ is_named p c.args.identity) (λ p. is_named p c.args.identity ≡ false) _ _ _ _ _
    c.loop-at.invariant.asked c.named_by.ensures.looked (λ w found. found ≡ is_used w c.args.identity) _
    c.from_residual.ensures.0

pub returns-then-branch : goal.returns-then-branch
returns-then-branch g c =
    asked_here g.S.Store g.met.S.Store.shut_if_dirty g.met.S.Store.settled
    (λ f p found. found ≡ is_named p c.args.identity) (λ p. is_named p c.args.identity ≡ false) _ _ _ _ _
    c.loop-at.invariant.asked c.named_by.ensures.looked (λ w found. found ≡ is_used w c.args.identity) true true
    (c.in_ok-named_by.was ∙ ap Ok c.if-branch.true)
    (λ w p register there told. sym (used_is_named w c.args.identity register
    ∙ any_in (λ x. is_named x c.args.identity) p w.packages there (sym told)))

pub loop-at-preserved : goal.loop-at-preserved
loop-at-preserved g c = record {
  asked = asked_one g.S.Store g.met.S.Store.shut_if_dirty g.met.S.Store.settled
      (λ f p found. found ≡ is_named p c.args.identity) (λ p. is_named p c.args.identity ≡ false) _ _ _ _ _
      c.loop-at.invariant.asked c.named_by.ensures.looked false (c.in_ok-named_by.was ∙ ap Ok c.if-branch.false)
      (λ f p told. sym told);
}

pub returns : goal.returns
returns g c =
    let past : length c.args.members.now.items ≤ c.loop-at.at =
    omega (arith, c.len-at-end.ensures, c.loop-at-test.false) in
    asked_all g.S.Store (λ p. is_named p c.args.identity ≡ false) (λ w found. found ≡ is_used w c.args.identity)
    _ _ _
    false past
    (λ w register each. sym (used_is_named w c.args.identity register
    ∙ none_any (λ x. is_named x c.args.identity) w.packages each)) c.loop-at.invariant.asked
