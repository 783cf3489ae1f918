-- What a world tells of itself. Profile.
use Rattle.std.specs.Prelude.{◌≡◌, map}
use Rattle.sheet_types.specs.World.{World, receipts_of}
use Rattle.command_tidying.specs.declared.register.Register.{Register}

-- these are all its receipts, by number, and its live packages
pub record IsRegisterOf (w : World) (register : Register) : Type 0 where
  pub receipts : register.receipts.items ≡ receipts_of w
  pub live : register.live.items ≡ map (λ p. p.uuid) w.packages
