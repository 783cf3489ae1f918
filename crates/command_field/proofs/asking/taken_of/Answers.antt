-- Only requests ask for something.
use Rattle.std.proofs.Common.{sym}
use Rattle.command_field.proofs.asking.taken_of.Goals as goal

pub returns-in-Asked-clause-told : goal.returns-in-Asked-clause-told
returns-in-Asked-clause-told g c = rw (c.in-Asked.is, sym c.as_slice.ensures.value) c.taken_in.ensures.told
