-- Yes where each part says yes; no where one says no.
use Rattle.std.proofs.Common.{◌∙◌, Ok, ap}
use Rattle.std.specs.List.{AllByRecursion}
use Rattle.store_sql.proofs.Staying.{looks_stays, stays_then}
use Rattle.package_tables.specs.Package.{Tables}
use Rattle.identity_register.proofs.Looking.{looked, looked_then, fails}
use Rattle.package_items.specs.Answers.{Decides}
use Rattle.package_items.proofs.Deciding.{says_no, says_no_then, says_last}
use Rattle.package_items.specs.Ranges.{AreItemsInRange, IsIdentityInRange}
use Rattle.package_items.specs.Walks.{AreUserRowsInRange, ArePairsInRange}
use Rattle.package_items.proofs.ranges.are_in_range.Goals as goal

pub returns-then-not-branch : goal.returns-then-not-branch
returns-then-not-branch g c = says_no {P = λ (t : Tables). AreUserRowsInRange c.args.frame.now t}
    {Q = λ (t : Tables). AreItemsInRange c.args.frame.now t}
    (c.in_ok-user_rows_in_range.was ∙ ap Ok c.if-not-branch.true) c.user_rows_in_range.ensures
    (λ t q. record { tiles = q.tiles; media = q.media; rows = q.rows })

pub returns-then-not-branch-2 : goal.returns-then-not-branch-2
returns-then-not-branch-2 g c = says_no_then {P = λ (t : Tables). AllByRecursion IsIdentityInRange t.identities}
    {Q = λ (t : Tables). AreItemsInRange c.args.frame.now t}
    (looked (λ t. Decides (AreUserRowsInRange c.args.frame.now t))
    (c.in_ok-user_rows_in_range.was ∙ ap Ok c.if-not-branch.false) c.user_rows_in_range.ensures)
    (c.in_ok-identities_in_range.was ∙ ap Ok c.if-not-branch-2.true) c.identities_in_range.ensures
    (λ t q. q.identities)

pub returns : goal.returns
returns g c = says_last {P = λ (t : Tables). ArePairsInRange t}
    {Q = λ (t : Tables). AreItemsInRange c.args.frame.now t} c.all_pairs_in_range.result
    (looked_then (λ t. Decides (AllByRecursion IsIdentityInRange t.identities))
    (looked (λ t. Decides (AreUserRowsInRange c.args.frame.now t))
    (c.in_ok-user_rows_in_range.was ∙ ap Ok c.if-not-branch.false) c.user_rows_in_range.ensures)
    (c.in_ok-identities_in_range.was ∙ ap Ok c.if-not-branch-2.false) c.identities_in_range.ensures)
    c.all_pairs_in_range.ensures (λ t h p. record {
      tiles = h.0.tiles;
      media = h.0.media;
      rows = h.0.rows;
      identities = h.1;
      tiles_media = p.tiles_media;
      rows_media = p.rows_media;
      rows_tiles = p.rows_tiles;
    })
    (λ t q. record { tiles_media = q.tiles_media; rows_media = q.rows_media; rows_tiles = q.rows_tiles })

-- a look that failed leaves the store as it was too
pub returns-in_err-user_rows_in_range : goal.returns-in_err-user_rows_in_range
returns-in_err-user_rows_in_range g c = fails c.from_residual.result c.from_residual.ensures.0
    (looks_stays c.user_rows_in_range.ensures)

pub returns-in_err-identities_in_range : goal.returns-in_err-identities_in_range
returns-in_err-identities_in_range g c = fails c.from_residual-in_err-identities_in_range.result
    c.from_residual-in_err-identities_in_range.ensures.0 (stays_then (looks_stays c.user_rows_in_range.ensures)
    (looks_stays c.identities_in_range.ensures))
