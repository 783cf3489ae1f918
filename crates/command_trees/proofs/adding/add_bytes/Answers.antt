-- What was not added was refused, or nothing was done.
use Rattle.std.proofs.Common.{◌≡◌, ◌∙◌, ap, sym, false}
use Rattle.command_trees.specs.Adding.{is_there}
use Rattle.command_trees.proofs.Added.{not_added}
use Rattle.command_trees.proofs.adding.add_bytes.Goals as goal

pub returns-in-Err : goal.returns-in-Err
returns-in-Err g c =
    let none : is_there c.args.items.now c.in-Some.place c.args.bytes.items ≡ false =
    ap (is_there c.args.items.now c.in-Some.place) (sym c.as_slice.ensures.value) ∙ sym c.is_there.ensures
    ∙ c.if-is_there.false in
    not_added g.S.Store g.N.Identities.gives c.args.target.now c.args.items.now c.args.file.now c.in-Some.place
    c.args.bytes.items c.args.world.now c.add_tile.new.world c.args.identities.now c.add_tile.new.identities
    c.in-Err.fault (rw c.frame-frame.ensures at c.in-Some.ensures.some) none c.in-Err.ensures
