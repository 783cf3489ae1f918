use Rattle.std.proofs.Common.{◌∙◌, Ok, refl, ap, to_z, to_z-of_z, rules, FitsSigned, w64, negsuc}
use Rattle.std.specs.Prelude.{filter}
use Rattle.sqlite.specs.Held.{state}
use Rattle.store_sql.proofs.Staying.{looks_stays, stays_then}
use Rattle.store_sql.proofs.Transactions.{at_rest, same_survives, steps_failed, steps_none, steps_then}
use Rattle.package_tables.specs.Calls.{IsLeast}
use Rattle.package_tables.specs.declared.fault.Fault.{Fault}
use Rattle.identity_register.proofs.Looking.{looked}
use Rattle.custody.specs.Homing.{FromClean}
use Rattle.custody.proofs.Homecoming.{is_after, ReceiptsSoFar, none_home, receipt_more, all_home}
use Rattle.custody.proofs.homing.bring_home.Goals as goal

pub loop-init : goal.loop-init
loop-init g c =
    let s = state g.S.Store c.args.source.now in
    record {
      same = refl;
      source = record {
        rests = c.requires;
        was_open = λ h. h;
        holds =
            at_rest g.S.Store g.met.S.Store.shut_if_dirty g.met.S.Store.settled c.args.source.now c.requires;
        survives = same_survives s;
      };
      each = steps_none {X = Unit {0}} {E = Fault} (λ _. FromClean s (ReceiptsSoFar (negsuc 0) s.now))
          (state g.S.Store c.args.tx.now.conn.now) tt (λ clean. none_home s.now
          (state g.S.Store c.args.tx.now.conn.now).now);
    }

pub returns-in-None-clause-source : goal.returns-in-None-clause-source
returns-in-None-clause-source g c = stays_then c.loop.invariant.source (looks_stays c.receipt_after.ensures)

pub returns-in-None-clause-opens : goal.returns-in-None-clause-opens
returns-in-None-clause-opens g c clean = ((looked (λ t x. IsLeast (λ y. y.seq)
    (filter (is_after (to_z w64 c.loop.last-bits)) t.receipts) x) (c.in_ok-receipt_after.was ∙ ap Ok c.in-None.is)
    c.receipt_after.ensures).told clean).0

pub returns-in-None-clause-steps : goal.returns-in-None-clause-steps
returns-in-None-clause-steps g c =
    all_home (to_z w64 c.loop.last-bits) (state g.S.Store c.args.source.now) (state g.S.Store c.loop.source)
    (state g.S.Store c.receipt_after.new.conn) c.loop.invariant.source
    (looked (λ t x. IsLeast (λ y. y.seq) (filter (is_after (to_z w64 c.loop.last-bits)) t.receipts) x)
    (c.in_ok-receipt_after.was ∙ ap Ok c.in-None.is) c.receipt_after.ensures) c.loop.invariant.each

pub returns-in_err-bring_receipt-in-Some-clause-source : goal.returns-in_err-bring_receipt-in-Some-clause-source
returns-in_err-bring_receipt-in-Some-clause-source g c = stays_then
    (stays_then c.loop.invariant.source (looks_stays c.receipt_after.ensures)) c.bring_receipt.ensures.source

pub returns-in_err-bring_receipt-in-Some-clause-steps : goal.returns-in_err-bring_receipt-in-Some-clause-steps
returns-in_err-bring_receipt-in-Some-clause-steps g c = steps_failed _
    c.from_residual-in_err-bring_receipt-in-Some.ensures.0 (steps_then {Y = Unit {0}} {F = Fault}
    c.loop.invariant.each c.bring_receipt.ensures.steps)

pub loop-preserved : goal.loop-preserved
loop-preserved g c =
    let seq : FitsSigned w64 c.in-Some.row.seq = search rules in
    record {
      same = c.bring_receipt.ensures.same_reference ∙ c.loop.invariant.same;
      source = stays_then (stays_then c.loop.invariant.source (looks_stays c.receipt_after.ensures))
          c.bring_receipt.ensures.source;
      each = simp (to_z-of_z, seq) (receipt_more (to_z w64 c.loop.last-bits) c.in-Some.row
          (state g.S.Store c.args.source.now) (state g.S.Store c.loop.source)
          (state g.S.Store c.receipt_after.new.conn) (state g.S.Store c.bring_receipt.new.source)
          c.loop.invariant.source
          (looked (λ t x. IsLeast (λ y. y.seq) (filter (is_after (to_z w64 c.loop.last-bits)) t.receipts) x)
          (c.in_ok-receipt_after.was ∙ ap Ok c.in-Some.is) c.receipt_after.ensures) c.bring_receipt.ensures.source
          c.loop.invariant.each c.in_ok-bring_receipt-in-Some.ensures.steps);
    }
