-- One row more is in its ranges.
use Rattle.std.proofs.Common.{◌≡◌, ◌∙◌, Ok, true, false, true≢false, sym, ap, to_z-of_z, rules}
use Rattle.std.proofs.Common.{FitsSigned, w64}
use Rattle.store_sql.proofs.Staying.{looks_stays, stays_then}
use Rattle.identity_register.proofs.Reaching.{stays_itself, goes_from, goes_on}
use Rattle.package_items.specs.Answers.{Decides}
use Rattle.package_items.specs.Walks.{IsNextRow, AreRowsInRange, placed_in, is_placed_in_range}
use Rattle.identity_register.proofs.Looking.{fails}
use Rattle.package_items.proofs.Deciding.{goes_tell, with_numbers, opened}
use Rattle.package_items.proofs.Ranging.{InRange, rows_in, in_rows}
use Rattle.package_items.proofs.Walking.{none_met, one_met, all_met, not_all}
use Rattle.package_items.proofs.ranges.rows_in_range.Goals as goal

pub loop-init : goal.loop-init
loop-init g c = goes_from (stays_itself g.S.Store g.met.S.Store.shut_if_dirty g.met.S.Store.settled c.args.conn.now
    c.requires.rests) (λ t numbers. none_met (InRange c.args.frame.now) (placed_in c.args.table t))

pub returns-in-None : goal.returns-in-None
returns-in-None g c =
    let table = c.args.table in
    let f = c.args.frame.now in
    let answered = c.in_ok-next_row.was ∙ ap Ok c.in-None.is in
    goes_tell (λ t. Decides (AreRowsInRange f table t))
    (with_numbers (goes_on (λ t x. IsNextRow table c.loop.last t x) c.loop.invariant answered c.next_row.ensures
    (λ t sofar next numbers. rows_in f table t (all_met (InRange f) c.loop.last (placed_in table t) next
    (sofar numbers)))))
    (opened answered c.next_row.ensures)

pub returns-then-not-is_row_in_range : goal.returns-then-not-is_row_in_range
returns-then-not-is_row_in_range g c =
    let table = c.args.table in
    let f = c.args.frame.now in
    let answered = c.in_ok-next_row.was ∙ ap Ok c.in-Some.is in
    let out : false ≡ is_placed_in_range f c.in-Some.row = c.if-not-is_row_in_range.ensures in
    goes_tell (λ t. Decides (AreRowsInRange f table t))
    (with_numbers (goes_on (λ t x. IsNextRow table c.loop.last t x) c.loop.invariant answered c.next_row.ensures
    (λ t sofar next numbers. λ inside. not_all (InRange f) c.loop.last (placed_in table t) c.in-Some.row next
    (λ e. true≢false (sym e ∙ sym out)) (in_rows f table t inside))))
    (opened answered c.next_row.ensures)

pub loop-preserved : goal.loop-preserved
loop-preserved g c =
    let table = c.args.table in
    let f = c.args.frame.now in
    let number : FitsSigned w64 c.in-Some.row.number = search rules in
    let inside : true ≡ is_placed_in_range f c.in-Some.row = c.if-not-is_row_in_range.ensures in
    simp (to_z-of_z, number) (goes_on (λ t x. IsNextRow table c.loop.last t x) c.loop.invariant
    (c.in_ok-next_row.was ∙ ap Ok c.in-Some.is) c.next_row.ensures
    (λ t sofar next numbers. one_met (InRange f) c.loop.last (placed_in table t) c.in-Some.row (numbers table) next
    (sym inside) (sofar numbers)))

-- a look that failed leaves the store as it was too
pub returns-in_err-next_row : goal.returns-in_err-next_row
returns-in_err-next_row g c = fails c.from_residual.result c.from_residual.ensures.0
    (stays_then c.loop.invariant.stays (looks_stays c.next_row.ensures))
