-- The stores were asked, or left alone.
use Rattle.std.proofs.Common.{inr}
use Rattle.view_world.proofs.HeldStores.{asks, asks_nothing}
use Rattle.commands.proofs.registers.receipts_of.Goals as goal

pub returns-in_err-receipts-clause-asked : goal.returns-in_err-receipts-clause-asked
returns-in_err-receipts-clause-asked g c = asks_nothing g.S.Store c.from_residual.result c.from_residual.ensures.0
    (inr c.ledger_of.ensures.read)

pub returns-clause-asked : goal.returns-clause-asked
returns-clause-asked g c = asks g.S.Store _ c.in_ok-receipts.was (λ packages it. it) c.ledger_of.ensures
