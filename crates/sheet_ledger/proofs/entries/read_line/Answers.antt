-- A text without a space is no line.
use Rattle.std.proofs.Common.{sym, ap, ◌∙◌}
use Rattle.sheet_types.specs.Lines.{entry_from}
use Rattle.sheet_ledger.proofs.Slots.{no_space}
use Rattle.sheet_ledger.proofs.entries.read_line.Goals as goal

pub returns-in_default : goal.returns-in_default
returns-in_default c = sym (no_space c.args.text.now c.in_default.ensures.none)
