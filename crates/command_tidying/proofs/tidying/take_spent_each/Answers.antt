-- One package after the other.
use Rattle.std.proofs.Common.{map}
use Rattle.std.specs.Prelude.{string_bytes}
use Rattle.command_tidying.proofs.Taking.{took_err}
use Rattle.command_tidying.proofs.tidying.take_spent_each.Goals as goal

pub loop-package-init : goal.loop-package-init
loop-package-init g c = λ start it. it

pub returns-in_err-take_spent : goal.returns-in_err-take_spent
returns-in_err-take_spent g c = λ start it.
    took_err g.Y.Yard.listed g.Y.Yard.shown g.Y.Yard.removes c.args.register.now
    (map (λ t. string_bytes t) c.take_spent.new.names.items) start c.take_spent.new.yard c.from_residual.result
    c.from_residual.ensures.0
    (c.in_err-take_spent.ensures start (c.loop-package.invariant start it))

pub returns : goal.returns
returns g c = c.loop-package.invariant
