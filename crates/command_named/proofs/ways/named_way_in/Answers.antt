use Rattle.command_named.proofs.Told.{looks_named}
use Rattle.command_named.proofs.ways.named_way_in.Goals as goal

pub returns : goal.returns
returns g c = record {
  way = c.way_by-way.result;
  looked = looks_named g.S.Store c.args.form c.args.word.now c.args.world c.register_of-register.result.1.items
      c.register_of-register.result.0 c.way_by-way.result c.way_by-way.ensures c.register_of-register.ensures;
  told = c.tell_way-ending.ensures;
  hinted = c.hint_after-hint.ensures;
}
