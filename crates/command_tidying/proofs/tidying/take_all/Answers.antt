-- First the files of packages, then what stood beside them.
use Rattle.std.proofs.Common.{map}
use Rattle.std.specs.Prelude.{string_bytes}
use Rattle.command_tidying.proofs.Taking.{took_err, took_then}
use Rattle.command_tidying.proofs.tidying.take_all.Goals as goal

pub returns-in_err-take_spent_each : goal.returns-in_err-take_spent_each
returns-in_err-take_spent_each g c = λ start it.
    took_err g.Y.Yard.listed g.Y.Yard.shown g.Y.Yard.removes c.args.register.now
    (map (λ t. string_bytes t) c.take_spent_each.new.names.items) start c.take_spent_each.new.yard
    c.from_residual-in_err-take_spent_each.result c.from_residual-in_err-take_spent_each.ensures.0
    (c.in_err-take_spent_each.ensures start it)

pub returns : goal.returns
returns g c =
    took_then g.Y.Yard.listed g.Y.Yard.shown g.Y.Yard.removes c.args.register.now c.args.names.now.items
    c.take_spent_each.new.names.items c.take_leftovers.new.names.items
    c.args.yard.now c.take_spent_each.new.yard c.take_leftovers.new.yard c.take_leftovers.result
    c.in_ok-take_spent_each.ensures c.take_leftovers.ensures
