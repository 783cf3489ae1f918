-- One more is told of.
use Rattle.std.proofs.Common.{◌+◌, ◌++◌, ◌∷◌, [], Bool, sym, subst}
use Rattle.command_trees.specs.Adding.{AreCounted}
use Rattle.command_trees.proofs.Added.{counted_new, counted_old}
use Rattle.command_trees.proofs.adding.count_file.Goals as goal

pub returns-then-is_new-clause-each : goal.returns-then-is_new-clause-each
returns-then-is_new-clause-each c = λ told it.
    subst (λ (b : Bool). AreCounted (told ++ b ∷ []) (record
    { added = c.args.counts.added + 1; passed = c.args.counts.passed })) (sym c.if-is_new.true)
    (counted_new told c.args.counts.added c.args.counts.passed it)

pub returns-else-is_new-clause-each : goal.returns-else-is_new-clause-each
returns-else-is_new-clause-each c = λ told it.
    subst (λ (b : Bool). AreCounted (told ++ b ∷ []) (record
    { added = c.args.counts.added; passed = c.args.counts.passed + 1 })) (sym c.if-is_new.false)
    (counted_old told c.args.counts.added c.args.counts.passed it)
