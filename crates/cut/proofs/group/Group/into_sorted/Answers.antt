use Rattle.std.proofs.Common.{rules, ◌≡◌, sym, subst}
use Rattle.sheet_types.specs.Ordered.{IsArranged}
use Rattle.cut.proofs.Members.{sorted_arranged}
use Rattle.cut.proofs.group.Group.into_sorted.Goals as goal

pub returns-clause-order : goal.returns-clause-order
returns-clause-order c =
    let is : c.in_ok-collect.field-0.items ≡ c.args.self.known.keys = search rules in
    subst (IsArranged (λ id. id)) (sym is) (sorted_arranged c.args.self.known.keys
    c.into_iter.ensures.into_iter_gives.4)
