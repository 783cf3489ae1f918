-- Yes where each part says yes; no where one says no.
use Rattle.std.proofs.Common.{◌∙◌, Ok, ap}
use Rattle.store_sql.proofs.Staying.{looks_stays, stays_then}
use Rattle.package_tables.specs.Package.{Tables}
use Rattle.identity_register.proofs.Looking.{looked, looked_then, fails}
use Rattle.package_items.specs.Answers.{Decides}
use Rattle.package_items.proofs.Deciding.{says_no, says_no_then, says_last}
use Rattle.sheet_types.specs.declared.command.Mapping.TheVariants.{TilesMedia, RowsMedia, RowsTiles}
use Rattle.package_items.specs.Walks.{ArePairsIn, ArePairsInRange}
use Rattle.package_items.proofs.ranges.all_pairs_in_range.Goals as goal

pub returns-then-not-branch : goal.returns-then-not-branch
returns-then-not-branch g c = says_no {P = λ (t : Tables). ArePairsIn TilesMedia t}
    {Q = λ (t : Tables). ArePairsInRange t} (c.in_ok-pairs_in_range.was ∙ ap Ok c.if-not-branch.true)
    c.pairs_in_range.ensures (λ t q. q.tiles_media)

pub returns-then-not-branch-2 : goal.returns-then-not-branch-2
returns-then-not-branch-2 g c = says_no_then {P = λ (t : Tables). ArePairsIn RowsMedia t}
    {Q = λ (t : Tables). ArePairsInRange t} (looked (λ t. Decides (ArePairsIn TilesMedia t))
    (c.in_ok-pairs_in_range.was ∙ ap Ok c.if-not-branch.false) c.pairs_in_range.ensures)
    (c.in_ok-pairs_in_range-2.was ∙ ap Ok c.if-not-branch-2.true) c.pairs_in_range-2.ensures (λ t q. q.rows_media)

pub returns : goal.returns
returns g c = says_last {P = λ (t : Tables). ArePairsIn RowsTiles t} {Q = λ (t : Tables). ArePairsInRange t}
    c.pairs_in_range-3.result (looked_then (λ t. Decides (ArePairsIn RowsMedia t))
    (looked (λ t. Decides (ArePairsIn TilesMedia t)) (c.in_ok-pairs_in_range.was ∙ ap Ok c.if-not-branch.false)
    c.pairs_in_range.ensures) (c.in_ok-pairs_in_range-2.was ∙ ap Ok c.if-not-branch-2.false)
    c.pairs_in_range-2.ensures) c.pairs_in_range-3.ensures (λ t h p. record
    { tiles_media = h.0; rows_media = h.1; rows_tiles = p }) (λ t q. q.rows_tiles)

-- a look that failed leaves the store as it was too
pub returns-in_err-pairs_in_range : goal.returns-in_err-pairs_in_range
returns-in_err-pairs_in_range g c = fails c.from_residual.result c.from_residual.ensures.0
    (looks_stays c.pairs_in_range.ensures)

pub returns-in_err-pairs_in_range-2 : goal.returns-in_err-pairs_in_range-2
returns-in_err-pairs_in_range-2 g c = fails c.from_residual-in_err-pairs_in_range-2.result
    c.from_residual-in_err-pairs_in_range-2.ensures.0 (stays_then (looks_stays c.pairs_in_range.ensures)
    (looks_stays c.pairs_in_range-2.ensures))
