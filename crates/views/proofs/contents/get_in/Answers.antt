-- What was found, what it is, and what was written of it.
use Rattle.std.proofs.Common.{Ok, Err, refl}
use Rattle.views.specs.Contents.{named}
use Rattle.views.proofs.Named.{tells_named}
use Rattle.views.proofs.contents.get_in.Goals as goal

pub returns-in-Ok : goal.returns-in-Ok
returns-in-Ok g c = record {
  found = Ok (named c.in-Ok.found (λ b. b.items));
  told = tells_named g.S.Store (λ b. b.items) c.args.word.now c.args.world.now c.named_data.new.world c.in-Ok.found
      c.in-Ok.ensures.told;
  read = c.in-Ok.ensures.read;
  shown = c.show_named.ensures;
}

pub returns-in-Err : goal.returns-in-Err
returns-in-Err g c = record {
  found = Err c.in-Err.fault;
  told = λ clean. tt;
  read = c.in-Err.ensures.read;
  shown = (c.fault_ending.ensures, refl);
}
