-- No line is due.
use Rattle.std.proofs.Common.{◌≡◌, []}
use Rattle.field_faults.specs.Lines.{fault_lines}
use Rattle.command_field.proofs.Told.{no_lines, none_told}
use Rattle.command_field.proofs.asking.answer_with.Goals as goal

pub returns-then-is_empty : goal.returns-then-is_empty
returns-then-is_empty c =
    let due = fault_lines c.args.frame.now c.args.holdings.now.items.now c.args.more c.args.held in
    let none : due ≡ [] =
    no_lines c.in-Ok.lines.bytes.len c.in-Ok.lines.bytes.items due c.is_empty.result c.in-Ok.lines.bytes.ok.0
    c.in-Ok.ensures c.is_empty.ensures c.if-is_empty.true in
    none_told due c.args.asker.now.«package» c.args.asker.now.ticket c.args.asker.now.at.now
    c.args.holdings.now.items.now c.args.holdings.now.links.now c.args.more c.args.held none
    c.answer_by.result c.answer_by.ensures
