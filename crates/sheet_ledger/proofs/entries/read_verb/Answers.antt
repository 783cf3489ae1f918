-- Another word is no verb.
use Rattle.std.proofs.Common.{sym}
use Rattle.sheet_ledger.proofs.Slots.{no_known_verb}
use Rattle.sheet_ledger.proofs.entries.read_verb.Goals as goal

pub returns-in_default : goal.returns-in_default
returns-in_default c = sym (no_known_verb c.args.verb.now c.args.rest.now c.requires c.in_default.not-add
    c.in_default.not-delete c.in_default.not-link c.in_default.not-unlink c.in_default.not-split
    c.in_default.not-merge)
