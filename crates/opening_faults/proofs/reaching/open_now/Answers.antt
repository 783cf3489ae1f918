-- The merges of this round are noted, so what is open by them is open.
use Rattle.std.proofs.Common.{◌∙◌}
use Rattle.opening_faults.specs.Standings.{standing}
use Rattle.opening_faults.proofs.Turning.{noted_now, opened_now}
use Rattle.opening_faults.proofs.reaching.open_now.Goals as goal

pub returns-clause-merged : goal.returns-clause-merged
returns-clause-merged c = λ k stands was. noted_now c.args.sights.now k c.args.merges.now c.note_fresh.new.merges was
    (c.in_ok-note_fresh.ensures (standing k c.args.sights.now) stands)

pub returns-clause-opened : goal.returns-clause-opened
returns-clause-opened c = λ k stands was.
    c.in_ok-opened.ensures (standing k c.args.sights.now) stands
    ∙ opened_now c.args.sights.now k c.note_fresh.new.merges
    (noted_now c.args.sights.now k c.args.merges.now c.note_fresh.new.merges was
    (c.in_ok-note_fresh.ensures (standing k c.args.sights.now) stands))
