-- So much is found for the word, and that came of it; or the world was only read.
use Rattle.std.proofs.Common.{refl, sym}
use Rattle.command_naming.proofs.Dropped.{dropped_so}
use Rattle.command_naming.proofs.Reading.{untouched_both}
use Rattle.command_naming.proofs.drops.drop_named.Goals as goal

pub returns-in-Ok-drop_item : goal.returns-in-Ok-drop_item
returns-in-Ok-drop_item g c = record {
  found = c.in-Ok.found;
  read = c.found_item.new.world;
  untouched = c.in-Ok.ensures.read;
  told = λ clean w stands. c.in-Ok.ensures.told clean w stands;
  made = dropped_so g.S.Store g.N.Identities.gives c.args.dropping.now c.in-Ok.found c.in-Ok-pick_one.id
      c.found_item.new.world c.drop_item.new.world c.args.identities.now c.drop_item.new.identities
      c.in-Ok-drop_item.outcome _ _ (sym c.in-Ok-pick_one.ensures) c.in-Ok-drop_item.ensures;
}

pub returns-in-Err-drop_item : goal.returns-in-Err-drop_item
returns-in-Err-drop_item g c =
    untouched_both g.S.Store c.args.world.now c.found_item.new.world c.drop_item.new.world c.in-Ok.ensures.read
    c.in-Err-drop_item.ensures

pub returns-in-Err-pick_one : goal.returns-in-Err-pick_one
returns-in-Err-pick_one g c = record {
  found = c.in-Ok.found;
  read = c.found_item.new.world;
  untouched = c.in-Ok.ensures.read;
  told = λ clean w stands. c.in-Ok.ensures.told clean w stands;
  made = (sym c.in-Err-pick_one.ensures, refl, refl);
}
