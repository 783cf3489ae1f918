use Rattle.command_bringing.proofs.folders.bring_with.Goals as goal

pub returns : goal.returns
returns g c = (
  c.bring_in-ending.new.world,
  g.H.Shelf.failures_of c.args.shelf.now,
  g.H.Shelf.failures_of c.bring_in-ending.new.shelf,
  c.into_stores.ensures,
  c.bring_in-ending.ensures.brings,
  c.bring_in-ending.ensures.home,
)
