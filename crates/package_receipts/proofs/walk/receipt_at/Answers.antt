use Rattle.std.proofs.Common.{FitsSigned, w64, to_z-of_z, rules}
use Rattle.package_receipts.specs.Read.{AreThingsOf}
use Rattle.package_receipts.proofs.Walking.{receipt_if, receipt_none}
use Rattle.package_receipts.proofs.walk.receipt_at.Goals as goal

pub returns-clause-some : goal.returns-clause-some
returns-clause-some c =
    let fits : FitsSigned w64 c.args.row.seq = search rules in
    let read : AreThingsOf c.args.row.seq c.args.moved.now c.in-Some.things =
    simp (to_z-of_z, fits) at (rw c.in-Some.is at c.in_ok-things.ensures.some) in
    receipt_if c.args.row c.args.moved.now c.in-Some.things c.receipt_of.result read c.receipt_of.ensures.row
    c.receipt_of.ensures.fit c.receipt_of.ensures.items c.receipt_of.ensures.range

pub returns-clause-none : goal.returns-clause-none
returns-clause-none c = receipt_none c.args.row c.args.moved.now c.receipt_of.result c.receipt_of.ensures.none
