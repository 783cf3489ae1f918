-- The item is held so, and that came of it; or the world was only read.
use Rattle.std.proofs.Common.{Some}
use Rattle.command_drops.specs.Holding.{IsHeldIn}
use Rattle.command_naming.proofs.Reading.{untouched_still}
use Rattle.command_naming.proofs.drops.drop_item.Goals as goal

pub returns-in-Ok : goal.returns-in-Ok
returns-in-Ok g c = record {
  holding = c.in-Ok-Some.holding;
  read = c.holding_of.new.world;
  untouched = c.in-Ok-Some.ensures.read;
  held = λ clean w stands.
      let held : IsHeldIn w c.args.id (Some c.in-Ok-Some.holding) =
      rw c.in-Ok-Some.field-0-is at (c.in-Ok-Some.ensures.told clean w stands) in
      held;
  made = c.in-Ok.ensures;
}

pub returns-in-Err-drop_so : goal.returns-in-Err-drop_so
returns-in-Err-drop_so g c =
    untouched_still g.S.Store c.args.world.now c.holding_of.new.world c.drop_so.new.world c.in-Ok-Some.ensures.read
    c.in-Err-drop_so.ensures
