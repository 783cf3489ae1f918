-- One of the three makes it too many.
use Rattle.std.proofs.Common.{◌∙◌, sym, ap, ◌+◌, ◌||◌, length}
use Rattle.std.specs.Prelude.{nat_lt}
use Rattle.std.specs.List.{list_any}
use Rattle.std.proofs.lemmas.Bool.{lt-ltb, le-ltb}
use Rattle.sheet_types.specs.Refuse.{greatest_packages, greatest_receipts}
use Rattle.sheet_types.proofs.Basics.{or-true}
use Rattle.world_members.specs.Steps.{is_past_limits}
use Rattle.world_queries.specs.TooMany.{sums_with}
use Rattle.world_queries.proofs.Overfull.{one_more_is_over}
use Rattle.world_queries.proofs.too_many.is_too_many.Goals as goal

pub returns-then-any_past_limits : goal.returns-then-any_past_limits
returns-then-any_past_limits g c =
    sym (ap (λ b. b || nat_lt greatest_packages (length c.args.members.now) || nat_lt greatest_receipts
    (c.args.count + 1)) (sym c.any_past_limits.ensures ∙ c.if-any_past_limits.true))

pub returns-then-members-gt-GREATEST_PACKAGES : goal.returns-then-members-gt-GREATEST_PACKAGES
returns-then-members-gt-GREATEST_PACKAGES g c =
    sym (ap (λ b. list_any is_past_limits (sums_with c.args.members.now c.args.at c.args.sums) || b || nat_lt
    greatest_receipts (c.args.count + 1)) (lt-ltb greatest_packages (length c.args.members.now)
    c.if-members-gt-GREATEST_PACKAGES.true)
    ∙ ap (λ b. b || nat_lt greatest_receipts (c.args.count + 1))
    (or-true (list_any is_past_limits (sums_with c.args.members.now c.args.at c.args.sums))))

pub returns : goal.returns
returns g c =
    sym (ap (λ b. b || nat_lt greatest_packages (length c.args.members.now) || nat_lt greatest_receipts
    (c.args.count + 1)) (sym c.any_past_limits.ensures ∙ c.if-any_past_limits.false)
    ∙ ap (λ b. b || nat_lt greatest_receipts (c.args.count + 1))
    (le-ltb greatest_packages (length c.args.members.now) c.if-members-gt-GREATEST_PACKAGES.false)
    ∙ one_more_is_over greatest_receipts c.args.count)
