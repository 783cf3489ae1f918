-- One more is put in at the key of the content.
use Rattle.std.proofs.Common.{◌∙◌, ap, ◌+◌, bytes_eq, Some, cond, arith}
use Rattle.std.specs.Ordering.{nat_cmp}
use Rattle.std.specs.Cmp.Lexicographic.{slice_cmp}
use Rattle.std.specs.BTreeMap.{get}
use Rattle.field_changes.proofs.Sets.{at_key}
use Rattle.field_changes.proofs.naming.count_up.Goals as goal

pub overflow_add-count : goal.overflow_add-count
overflow_add-count c = omega (arith, c.requires, c.count_of-count.ensures)

pub returns-clause-after : goal.returns-clause-after
returns-clause-after c = λ q.
    at_key c.args.counts.now c.insert.new.self c.of_rank.result (Some (c.count_of-count.result + 1))
    c.in_ok-insert.ensures.updates q
    ∙ ap (λ k. cond (bytes_eq k q) (Some (c.count_of-count.result + 1))
    (get (slice_cmp nat_cmp) c.args.counts.now q))
    c.of_rank.ensures
