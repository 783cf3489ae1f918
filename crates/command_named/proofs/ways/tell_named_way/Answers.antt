use Rattle.command_named.proofs.Told.{tells_named}
use Rattle.command_named.proofs.ways.tell_named_way.Goals as goal

pub returns : goal.returns
returns g c = record {
  way = c.way_by-found.result;
  looked = tells_named g.S.Store c.args.form c.args.word.now c.args.world.now c.register_in-register.new.world
      c.register_in-register.result c.way_by-found.result c.way_by-found.ensures c.register_in-register.ensures.told;
  read = c.register_in-register.ensures.read;
  told = c.tell_way-ending.ensures;
  hinted = c.hint_after-hint.ensures;
}
