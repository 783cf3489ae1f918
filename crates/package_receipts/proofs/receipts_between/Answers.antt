-- The rows that were read say what the tables say of these numbers.
use Rattle.std.proofs.Common.{subst, IfOk, IfSome, IfNone}
use Rattle.std.specs.Prelude.{MatchOption}
use Rattle.store_sql.proofs.Staying.{looks_stays, stays_then}
use Rattle.package_tables.specs.Calls.{AreThose}
use Rattle.package_tables.specs.Package.{tables_of}
use Rattle.identity_register.proofs.Looking.{looked, looked_then, fails}
use Rattle.package_receipts.specs.Ranges.{AreReceiptsInRange}
use Rattle.package_receipts.specs.Read.{AreReadAs, AreSaidUnder, is_between}
use Rattle.package_receipts.proofs.Parts.{part_answered}
use Rattle.package_receipts.proofs.Saying.{tells_of}
use Rattle.package_receipts.proofs.receipts_between.Goals as goal

pub returns : goal.returns
returns g c =
    let within = is_between c.args.after c.args.end in
    let rows = c.in_ok-rows.rows.items in
    let things = c.in_ok-moved.moved.items in
    tells_of (λ t found. MatchOption found (AreReceiptsInRange t.receipts t.moved → ⊥)
    (λ part. AreSaidUnder within t part.items)) c.receipts_in.result
    (looked_then (λ t found. AreThose (λ m. within m.seq) t.moved found.items)
    (looked (λ t found. AreThose (λ r. within r.seq) t.receipts found.items) c.in_ok-rows.was
    c.rows_between.ensures) c.in_ok-moved.was c.moved_between.ensures)
    (λ found e db h. part_answered within (tables_of db) rows things (λ v. v.items) found h.0 h.1
    (subst (λ r. IfOk r (λ f. IfSome f (λ v. AreReadAs rows things v.items))) e c.receipts_in.ensures.some)
    (subst (λ r. IfOk r (λ f. IfNone f (AreReceiptsInRange rows things → ⊥))) e c.receipts_in.ensures.none))

-- a look that failed leaves the store as it was too
pub returns-in_err-rows : goal.returns-in_err-rows
returns-in_err-rows g c = fails c.from_residual.result c.from_residual.ensures.0 (looks_stays c.rows_between.ensures)

pub returns-in_err-moved : goal.returns-in_err-moved
returns-in_err-moved g c = fails c.from_residual-in_err-moved.result c.from_residual-in_err-moved.ensures.0
    (stays_then (looks_stays c.rows_between.ensures) (looks_stays c.moved_between.ensures))
