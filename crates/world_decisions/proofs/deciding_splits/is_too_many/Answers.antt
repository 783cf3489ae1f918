-- None of the first three holds, so the number of receipts tells.
use Rattle.std.proofs.Common.{◌≡◌, ◌∙◌, sym, ap, ◌+◌, ◌||◌, length, false, arith}
use Rattle.std.specs.Prelude.{nat_lt}
use Rattle.std.specs.List.{list_any}
use Rattle.std.proofs.lemmas.Bool.{le-ltb}
use Rattle.sheet_types.specs.Refuse.{greatest_packages, greatest_receipts}
use Rattle.world_members.specs.Steps.{is_past_limits}
use Rattle.world_queries.specs.TooMany.{sums_with}
use Rattle.world_queries.proofs.Overfull.{one_more_is_over}
use Rattle.world_decisions.proofs.deciding_splits.is_too_many.Goals as goal

pub returns : goal.returns
returns g c =
    let few : nat_lt greatest_packages (length c.args.members.now + 1) ≡ false =
    le-ltb greatest_packages (length c.args.members.now + 1)
    (omega (arith, c.if-members-ge-GREATEST_PACKAGES.false)) in
    sym (ap (λ b. b || list_any is_past_limits (sums_with c.args.members.now c.args.at c.args.left) || nat_lt
    greatest_packages (length c.args.members.now + 1) || nat_lt greatest_receipts (c.args.count + 1))
    (sym c.is_past_limits.ensures ∙ c.if-is_past_limits.false)
    ∙ ap (λ b. b || nat_lt greatest_packages (length c.args.members.now + 1) || nat_lt greatest_receipts
    (c.args.count + 1)) (sym c.any_past_limits.ensures ∙ c.if-any_past_limits.false)
    ∙ ap (λ b. b || nat_lt greatest_receipts (c.args.count + 1)) few
    ∙ one_more_is_over greatest_receipts c.args.count)
