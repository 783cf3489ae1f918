-- What was told of a world that stays.
use Rattle.std.proofs.Common.{◌≡◌, map}
use Rattle.sheet_types.specs.World.{receipts_of}
use Rattle.commands.specs.Registers.{IsRegisterOf}
use Rattle.commands.proofs.WhatIsTold.{tells_joined}
use Rattle.commands.proofs.registers.register_in.Goals as goal

pub returns-clause-told : goal.returns-clause-told
returns-clause-told g c =
    tells_joined g.S.Store (λ w l. l.items ≡ map (λ p. p.uuid) w.packages) (λ w r. r.items ≡ receipts_of w)
    IsRegisterOf (λ m. m.live) (λ m. m.receipts)
    c.args.world.now c.ledger_in-receipts.new.world c.live_of-live.result c.ledger_in-receipts.result
    c.join_register.result
    (λ w m live receipts. record { receipts = receipts; live = live }) c.live_of-live.ensures
    c.ledger_in-receipts.ensures.told c.join_register.ensures
