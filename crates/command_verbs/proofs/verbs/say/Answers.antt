-- A mark has more words than a search reads.
use Rattle.command_verbs.proofs.Marks.{said_mark}
use Rattle.command_verbs.proofs.verbs.say.Goals as goal

pub returns-in-PutMark : goal.returns-in-PutMark
returns-in-PutMark c = said_mark _ _ _ _ _ _ _ _ c.in-PutMark.is c.put_mark.ensures
