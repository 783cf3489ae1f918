-- What is known before the next round.
use Rattle.std.proofs.Common.{◌∙◌, ap}
use Rattle.std.specs.List.{list_any}
use Rattle.opening_faults.specs.Splits.{makes_key}
use Rattle.opening_faults.specs.Standings.{standing}
use Rattle.opening_faults.proofs.Turning.{turned}
use Rattle.opening_faults.proofs.reaching.one_round.Goals as goal

pub returns : goal.returns
returns c = λ k was.
    turned c.args.sights.now k c.args.standings.now c.in_ok-later.later.items c.args.merges.now c.open_now.new.merges
    c.args.splits.now.items c.in_ok-opened.opened.items c.push_all.new.splits.items c.in_ok-loans.loans was
    (c.in_ok-opened.ensures.merged k was.stands was.merged) (c.in_ok-opened.ensures.opened k was.stands was.merged)
    (λ key. c.in_ok-loans.ensures key ∙ ap (list_any (makes_key key)) c.as_slice.ensures.value)
    (c.in_ok-later.ensures (standing k c.args.sights.now) was.stands) c.in_ok-push_all.ensures
