use Rattle.std.proofs.Common.{lit<}
use Rattle.command_verbs.proofs.Cuts.{cut_parts, cut_none}
use Rattle.command_verbs.proofs.areas.cut.Goals as goal

pub returns-clause-some : goal.returns-clause-some
returns-clause-some c = cut_parts c.args.mark c.args.text.now c.split_once.result
    (c.split_once.ensures.byte c.requires (λ w o h. h))

pub returns-clause-none : goal.returns-clause-none
returns-clause-none c = cut_none c.args.mark c.args.text.now c.split_once.result
    (c.split_once.ensures.byte c.requires (λ w o h. h))
