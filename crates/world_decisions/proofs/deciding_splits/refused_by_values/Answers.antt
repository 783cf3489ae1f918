-- The texts are looked at first.
use Rattle.world_decisions.proofs.SplitAsked.{value_by_text, value_by_place}
use Rattle.world_decisions.proofs.deciding_splits.refused_by_values.Goals as goal

pub returns-in-Some-clause-why : goal.returns-in-Some-clause-why
returns-in-Some-clause-why c = value_by_text c.args.frame.now c.args.request.now c.args.rect.now c.args.depth
    c.text_refusal.result c.in-Some.why c.text_refusal.ensures c.in-Some.is

pub returns-clause-why : goal.returns-clause-why
returns-clause-why c = value_by_place c.args.frame.now c.args.request.now c.args.rect.now c.args.depth
    c.text_refusal.result c.refused_by_place.result c.text_refusal.ensures c.in_default.is
    c.refused_by_place.ensures.why
