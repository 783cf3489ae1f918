-- What was seen of the store says that it may go.
use Rattle.std.proofs.Common.{rules, ◌≡◌, inl, true}
use Rattle.opening_strays.specs.Spent.{is_spent}
use Rattle.command_tidying.proofs.Taking.{took}
use Rattle.command_tidying.proofs.tidying.take_spent.Goals as goal

pub returns : goal.returns
returns g c =
    let spent : is_spent c.args.package c.in-Some.seen c.args.register.now.receipts.items
    c.args.register.now.live.items ≡ true = search rules in
    let shown : g.Y.Yard.shown c.args.package c.in-Some.seen = search rules in
    took g.Y.Yard.listed g.Y.Yard.shown g.Y.Yard.removes c.args.register.now c.args.names.now.items
    c.take_out.new.names.items c.in_ok-name.name c.args.yard.now c.take_out.new.yard c.take_out.result
    (inl (c.args.package, c.in-Some.seen, c.fits.ensures, shown, spent, c.in_ok-name.ensures)) c.take_out.ensures.removes
    c.take_out.ensures.ok c.take_out.ensures.err
