-- The split is put behind the others of its target.
use Rattle.std.proofs.Common.{◌∙◌, ◌++◌, ◌∷◌, [], ap}
use Rattle.sheet_balance.proofs.Splitting.{one_lent}
use Rattle.sheet_balance.proofs.splits.note_split.Goals as goal

pub returns-clause-noted : goal.returns-clause-noted
returns-clause-noted c =
    one_lent c.args.splits.now c.take_lents-lents.new.splits c.insert.new.self c.args.target c.args.lent
    c.push.new.self c.take_lents-lents.ensures.taken c.in_ok-insert.ensures.updates
    (c.in_ok-push.ensures.items ∙ ap (λ xs. xs ++ c.args.lent ∷ []) c.take_lents-lents.ensures.lents)
