-- There are as many stores as packages, so each is that of its package.
use Rattle.std.proofs.Common.{◌≡◌, length, map}
use Rattle.sheet_types.specs.World.{World, receipts_of}
use Rattle.world.specs.Worlds.{StandsFor, held}
use Rattle.view_world.proofs.Answers.{kept_counted, if_ok_so}
use Rattle.view_world.proofs.HeldStores.{looks_into}
use Rattle.commands.specs.Registers.{IsRegisterOf}
use Rattle.commands.proofs.WhatIsTold.{joined, long_live}
use Rattle.commands.proofs.registers.register_of.Goals as goal

pub returns : goal.returns
returns g c =
    joined g.S.Store (λ w l. l.items ≡ map (λ p. p.uuid) w.packages) (λ w r. r.items ≡ receipts_of w)
    IsRegisterOf
    (λ m. m.live) (λ m. m.receipts)
    c.args.world c.receipts_of-receipts.new.stores.items c.live_of-live.result c.receipts_of-receipts.result
    c.join_register.result
    (λ w m live receipts. record { receipts = receipts; live = live }) c.live_of-live.ensures
    (looks_into g.S.Store _ c.args.world c.receipts_of-receipts.new.stores.items c.receipts_of-receipts.result
    (kept_counted (λ n. (w : World) → StandsFor g.S.Store c.args.world w → n ≡ length w.packages)
    (λ k. length k.items) c.receipts_of-receipts.result c.live_of-live.result
    (length (held g.S.Store c.args.world))
    (rw c.into_stores-stores.ensures at c.receipts_of-receipts.ensures.counted)
    (if_ok_so _ _ c.live_of-live.result (λ k so w stands. long_live w k.items (so w stands))
    c.live_of-live.ensures))
    (λ w found stands given. given)
    (rw c.into_stores-stores.ensures at c.receipts_of-receipts.ensures.asked))
    c.join_register.ensures
