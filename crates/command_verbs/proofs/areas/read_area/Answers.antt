-- A text is that of one area at most.
use Rattle.command_verbs.proofs.Threes.{area_of, area_parts, no_area, not_three}
use Rattle.command_verbs.proofs.areas.read_area.Goals as goal

pub returns-in_err-zoom-clause-none : goal.returns-in_err-zoom-clause-none
returns-in_err-zoom-clause-none c = no_area c.from_residual.result c.args.text.now
    (not_three c.args.text.now c.in_err-zoom.ensures.none)

pub returns-in_err-zoom-2-clause-none : goal.returns-in_err-zoom-2-clause-none
returns-in_err-zoom-2-clause-none c =
    no_area c.from_residual-in_err-zoom-2.result c.args.text.now
    (λ r fits it. c.in_err-zoom-2.ensures.none r.zoom fits.zoom (area_parts _ _ _ _ r c.in_ok-zoom.ensures.some it).0)

pub returns-in_err-column-clause-none : goal.returns-in_err-column-clause-none
returns-in_err-column-clause-none c =
    no_area c.from_residual-in_err-column.result c.args.text.now
    (λ r fits it. c.in_err-column.ensures.none r.column r.last_column fits.column fits.last_column
    (area_parts _ _ _ _ r c.in_ok-zoom.ensures.some it).1)

pub returns-in_err-row-clause-none : goal.returns-in_err-row-clause-none
returns-in_err-row-clause-none c =
    no_area c.from_residual-in_err-row.result c.args.text.now
    (λ r fits it. c.in_err-row.ensures.none r.row r.last_row fits.row fits.last_row
    (area_parts _ _ _ _ r c.in_ok-zoom.ensures.some it).2)
