-- Where there is no room, no store was turned.
use Rattle.opening_stores.proofs.Turning.{any_err, none_turned}
use Rattle.opening_stores.proofs.bringing.bring_stores.Goals as goal

pub returns-in_err-room-clause-failed : goal.returns-in_err-room-clause-failed
returns-in_err-room-clause-failed g c = any_err c.from_residual.result
    (none_turned g.S.Store c.args.kept.now c.args.stores.now.items c.requires.long)

pub returns-in_err-waiting-clause-failed : goal.returns-in_err-waiting-clause-failed
returns-in_err-waiting-clause-failed g c = any_err c.from_residual-in_err-waiting.result
    (none_turned g.S.Store c.args.kept.now c.args.stores.now.items c.requires.long)
