-- One of the three makes it too many.
use Rattle.std.proofs.Common.{◌∙◌, sym, ap, ◌+◌, ◌-◌, ◌||◌, length, arith}
use Rattle.std.specs.Prelude.{nat_lt}
use Rattle.std.proofs.lemmas.Bool.{le-ltb}
use Rattle.sheet_types.specs.Refuse.{greatest_packages, greatest_receipts}
use Rattle.world_queries.proofs.Overfull.{one_more_is_over}
use Rattle.world_decisions.proofs.deciding_merges.leaves_too_many.Goals as goal

pub returns : goal.returns
returns g c =
    sym (ap (λ b. b || nat_lt greatest_packages (length c.args.members.now - 1) || nat_lt greatest_receipts
    (c.args.count + 1)) (sym c.any_past_limits.ensures ∙ c.if-any_past_limits.false)
    ∙ ap (λ b. b || nat_lt greatest_receipts (c.args.count + 1))
    (le-ltb greatest_packages (length c.args.members.now - 1)
    (omega (arith, c.if-members-gt-MOST_BEFORE_MERGE.false)))
    ∙ one_more_is_over greatest_receipts c.args.count)
