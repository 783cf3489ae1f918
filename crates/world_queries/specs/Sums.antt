-- When what a package holds after a command can be counted. Profile.
use Rattle.std.specs.Prelude.{◌<◌, ◌^◌}
use Rattle.sheet_types.specs.declared.command.Command.{Command}
use Rattle.sheet_types.specs.declared.command.Command.TheVariants.{Add, Delete, Link, Unlink, Split, Merge}
use Rattle.sheet_types.specs.declared.receipt.Sums.{Sums}
use Rattle.world_members.specs.Steps.{IsWithin, sums_more}

-- each sum has 64 bits
pub record IsCounted (held : Sums) : Type 0 where
  pub tiles : held.tiles < 2 ^ 64
  pub media : held.media < 2 ^ 64
  pub rows : held.rows < 2 ^ 64
  pub links : held.links < 2 ^ 64
  pub bytes : held.bytes < 2 ^ 64

-- What comes in can be counted with what is there, and what goes out is there.
abbrev pub CanCount : Command → Sums → Sums → Type 0
CanCount (Add uuid identity content) some held = IsCounted (sums_more some held)
CanCount (Delete uuid identity) some held = IsWithin some held
CanCount (Link uuid mapping base other) some held = IsCounted (sums_more some held)
CanCount (Unlink uuid mapping base other) some held = IsWithin some held
CanCount (Split uuid child mode rect) some held = Unit {0}
CanCount (Merge child into ticket) some held = Unit {0}
