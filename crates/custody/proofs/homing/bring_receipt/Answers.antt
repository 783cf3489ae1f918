use Rattle.std.proofs.Common.{rules, to_z-of_z, FitsSigned, w64}
use Rattle.sqlite.specs.Held.{state}
use Rattle.store_sql.proofs.Transactions.{at_rest, same_survives}
use Rattle.custody.proofs.Homecoming.{receipt_brought}
use Rattle.custody.proofs.homing.bring_receipt.Goals as goal

pub returns-clause-steps : goal.returns-clause-steps
returns-clause-steps g c =
    let seq : FitsSigned w64 c.args.row.seq = search rules in
    receipt_brought c.args.row (state g.S.Store c.args.source.now) (state g.S.Store c.bring_things.new.source)
    c.in_ok-put_row.ensures.steps (simp (to_z-of_z, seq) at c.bring_things.ensures.steps)

pub returns-in_err-put_row-clause-source : goal.returns-in_err-put_row-clause-source
returns-in_err-put_row-clause-source g c =
    record {
      rests = c.requires;
      was_open = λ h. h;
      holds = at_rest g.S.Store g.met.S.Store.shut_if_dirty
          g.met.S.Store.settled c.args.source.now c.requires;
      survives = same_survives (state g.S.Store c.args.source.now);
    }
