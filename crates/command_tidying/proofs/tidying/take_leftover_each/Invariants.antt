use Rattle.std.proofs.Common.{map}
use Rattle.std.specs.Prelude.{string_bytes}
use Rattle.command_tidying.specs.Tidying.{TakesOut}
use Rattle.command_tidying.proofs.tidying.take_leftover_each.Given as goal

-- what is noted so far was taken out
abbrev pub invariant-loop-file : goal.invariant-loop-file
invariant-loop-file g l = (start : _) → TakesOut g.Y.Yard.listed g.Y.Yard.shown g.Y.Yard.removes l.register
    (map (λ t. string_bytes t) l.fn.names.items) start l.fn.yard
    → TakesOut g.Y.Yard.listed g.Y.Yard.shown g.Y.Yard.removes l.register (map (λ t. string_bytes t) l.names.items)
    start l.yard
