-- The key is counted once more.
use Rattle.std.proofs.Common.{◌∙◌, ap, rules}
use Rattle.opening_faults.specs.Copies.{told_more}
use Rattle.opening_faults.proofs.Counting.{key_counted}
use Rattle.opening_faults.proofs.copies.count_key.Goals as goal

pub returns : goal.returns
returns c = key_counted c.args.counts.now c.insert.new.self c.args.key c.one_more-more.result
    (c.one_more-more.ensures ∙ ap told_more (search rules)) c.in_ok-insert.ensures.updates
