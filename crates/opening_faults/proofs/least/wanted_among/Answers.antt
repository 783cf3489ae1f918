-- One split more.
use Rattle.std.proofs.Common.{◌∙◌, ap, subst, ◌+◌, take}
use Rattle.std.proofs.lemmas.List.{take_all}
use Rattle.sheet_ledger.proofs.Walking.{one_more}
use Rattle.opening_faults.specs.Copies.{copies_of}
use Rattle.opening_faults.specs.Least.{AreWanted, is_wanted}
use Rattle.opening_faults.proofs.Choosing.{wanted_more}
use Rattle.opening_faults.proofs.least.wanted_among.Goals as goal

pub loop-split-preserved : goal.loop-split-preserved
loop-split-preserved c =
    let i = c.loop-split.split-index in
    let s = c.split-item.result in
    wanted_more (λ split. is_wanted c.args.wanted (copies_of c.args.counts.now split)) (take i c.args.splits.now)
    (take (i + 1) c.args.splits.now) s c.is_wanted.result c.loop-split.ids.items c.push_wanted.new.ids.items
    (one_more c.args.splits.now i s c.loop-split-test.true c.split-item.is)
    (c.is_wanted.ensures ∙ ap (is_wanted c.args.wanted) c.in_ok-copies.ensures) c.in_ok-push_wanted.ensures
    c.loop-split.invariant

pub returns : goal.returns
returns c =
    subst (λ splits. AreWanted (λ split. is_wanted c.args.wanted (copies_of c.args.counts.now split)) splits
    c.loop-split.ids.items)
    (take_all c.loop-split.split-index c.args.splits.now c.loop-split-test.false) c.loop-split.invariant
