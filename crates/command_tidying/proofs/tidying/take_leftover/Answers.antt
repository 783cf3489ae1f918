-- A file that stands beside no package may go.
use Rattle.std.proofs.Common.{inr, subst, sym}
use Rattle.command_tidying.specs.Tidying.{IsLeftoverFile}
use Rattle.command_tidying.proofs.Taking.{took}
use Rattle.command_tidying.proofs.tidying.take_leftover.Goals as goal

pub returns : goal.returns
returns g c =
    took g.Y.Yard.listed g.Y.Yard.shown g.Y.Yard.removes c.args.register.now c.args.names.now.items
    c.take_out.new.names.items c.in_ok-name.name c.args.yard.now c.take_out.new.yard c.take_out.result
    (inr (subst (λ t. IsLeftoverFile g.Y.Yard.listed g.Y.Yard.shown g.Y.Yard.removes t) (sym c.in_ok-name.ensures.ok)
    c.requires)) c.take_out.ensures.removes c.take_out.ensures.ok c.take_out.ensures.err
