-- A text is that of one place at most, so a part that is no number leaves none.
use Rattle.command_verbs.proofs.Threes.{no_place, place_of, place_parts, unplaced}
use Rattle.command_verbs.proofs.areas.read_place.Goals as goal

pub returns-in_err-zoom-clause-none : goal.returns-in_err-zoom-clause-none
returns-in_err-zoom-clause-none c = no_place c.from_residual.result c.args.text.now
    (unplaced c.args.text.now c.in_err-zoom.ensures.none)

pub returns-in_err-zoom-2-clause-none : goal.returns-in_err-zoom-2-clause-none
returns-in_err-zoom-2-clause-none c =
    no_place c.from_residual-in_err-zoom-2.result c.args.text.now
    (λ p fits it. c.in_err-zoom-2.ensures.none p.zoom fits.zoom (place_parts _ _ _ _ p c.in_ok-zoom.ensures.some it).0)

pub returns-in_err-column-clause-none : goal.returns-in_err-column-clause-none
returns-in_err-column-clause-none c =
    no_place c.from_residual-in_err-column.result c.args.text.now
    (λ p fits it. c.in_err-column.ensures.none p.column fits.column
    (place_parts _ _ _ _ p c.in_ok-zoom.ensures.some it).1)

pub returns-in_err-row-clause-none : goal.returns-in_err-row-clause-none
returns-in_err-row-clause-none c =
    no_place c.from_residual-in_err-row.result c.args.text.now
    (λ p fits it. c.in_err-row.ensures.none p.row fits.row (place_parts _ _ _ _ p c.in_ok-zoom.ensures.some it).2)
