use Rattle.std.proofs.Common.{rules, ◌≡◌, ◌∙◌, ◌++◌, Some, ap}
use Rattle.view_loan.specs.Pages.{end_text, loan_of, told_if}
use Rattle.view_loan.proofs.pages.loan_page.Goals as goal

pub returns : goal.returns
returns c =
    let live = c.in-Some.live in
    let lender = c.in-Some.lender in
    let own = c.in_ok-own.own in
    let is : loan_of c.args.register c.args.loan ≡ Some (live, lender) = search rules in (
      live,
      lender,
      own,
      is,
      c.in_ok-own.ensures,
      c.in_ok-put_end.ensures ∙ ap (λ t. t ++ end_text own live)
          (c.in_ok-put_told_if.ensures ∙ ap (λ t. t ++ told_if c.args.register live lender)
          c.new-text.ensures.bytes),
    )
