-- One file after the other.
use Rattle.std.proofs.Common.{rules, arith, ◌≡◌, map, slice_index_or, subst, sym}
use Rattle.std.specs.Prelude.{string_bytes}
use Rattle.command_tidying.specs.Tidying.{IsLeftoverFile}
use Rattle.command_tidying.proofs.Taking.{took_err}
use Rattle.command_tidying.proofs.tidying.take_leftover_each.Goals as goal

pub loop-file-init : goal.loop-file-init
loop-file-init g c = λ start it. it

pub loop-file-preserved : goal.loop-file-preserved
loop-file-preserved g c = λ start it. c.in_ok-take_leftover.ensures start (c.loop-file.invariant start it)

pub returns-in_err-take_leftover : goal.returns-in_err-take_leftover
returns-in_err-take_leftover g c = λ start it.
    took_err g.Y.Yard.listed g.Y.Yard.shown g.Y.Yard.removes c.args.register.now
    (map (λ t. string_bytes t) c.take_leftover.new.names.items) start c.take_leftover.new.yard
    c.from_residual.result c.from_residual.ensures.0
    (c.in_err-take_leftover.ensures start (c.loop-file.invariant start it))

pub returns : goal.returns
returns g c = c.loop-file.invariant

pub take_leftover-requires : goal.take_leftover-requires
take_leftover-requires g c =
    let here : slice_index_or c.args.found.now c.loop-file.file-index c.file-item.result ≡ c.file-item.result =
    search rules in
    let text : c.as_str.result.now ≡ string_bytes c.file-item.result = search rules in
    subst (λ t. IsLeftoverFile g.Y.Yard.listed g.Y.Yard.shown g.Y.Yard.removes t) (sym text)
    (subst (λ s. IsLeftoverFile g.Y.Yard.listed g.Y.Yard.shown g.Y.Yard.removes (string_bytes s)) here
    (c.requires c.loop-file.file-index c.file-item.result (omega arith)))
