-- The file is one of this package as it is.
use Rattle.std.proofs.Common.{◌≡◌, None, rules}
use Rattle.field_faults.specs.Heads.{head_fault}
use Rattle.command_field.proofs.Told.{told_heads}
use Rattle.command_field.proofs.asking.answer_given.Goals as goal

pub returns : goal.returns
returns c =
    let none : head_fault c.args.ask.now.«package» c.args.ticket c.args.frame.now c.args.ask.now.more c.args.held
    ≡ None = search rules in
    told_heads c.args.frame.now c.args.ask.now c.args.ticket c.args.holdings.now.items.now
    c.args.holdings.now.links.now c.args.held c.answer_with.result none c.answer_with.ensures
