-- The members tell whether it leaves too many.
use Rattle.std.proofs.Common.{◌∙◌, sym, ◌+◌, ◌||◌, length}
use Rattle.std.specs.Prelude.{nat_lt}
use Rattle.std.specs.List.{list_any}
use Rattle.std.proofs.lemmas.Bool.{or_parts, ltb-false}
use Rattle.sheet_types.specs.Refuse.{greatest_packages, greatest_receipts}
use Rattle.world_members.specs.Steps.{is_past_limits}
use Rattle.world_queries.specs.TooMany.{sums_with}
use Rattle.world_decisions.proofs.SplitDecided.{split_too_many, split_due}
use Rattle.world_decisions.proofs.deciding_splits.decide_by_sums.Goals as goal

pub returns-then-is_too_many-clause-decides : goal.returns-then-is_too_many-clause-decides
returns-then-is_too_many-clause-decides g c = λ w q s are made. split_too_many g.S.Store c.args.members.now
    c.args.count w q s c.args.due are made (sym c.is_too_many.ensures ∙ c.if-is_too_many.true)

pub returns-clause-decides : goal.returns-clause-decides
returns-clause-decides g c = λ w q s are made. split_due g.S.Store c.args.members.now c.args.count w q s c.args.due
    are made (sym c.is_too_many.ensures ∙ c.if-is_too_many.false)

pub returns-clause-place : goal.returns-clause-place
returns-clause-place g c =
    let over = or_parts (is_past_limits c.args.due.lent || list_any is_past_limits
    (sums_with c.args.members.now c.args.due.at c.args.due.left) || nat_lt greatest_packages
    (length c.args.members.now + 1)) (nat_lt greatest_receipts (c.args.count + 1))
    (sym c.is_too_many.ensures ∙ c.if-is_too_many.false) in
    record {
      at = c.requires.at;
      child_at = c.requires.child_at;
      number = c.requires.number;
      counted = ltb-false greatest_receipts (c.args.count + 1) over.1;
      shallow = c.requires.shallow;
    }
