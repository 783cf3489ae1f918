-- What is told is of what was found.
use Rattle.command_searches.proofs.hints.item_hint.Goals as goal

pub returns-clause-told : goal.returns-clause-told
returns-clause-told g c = λ clean w stands. (
  c.in_ok-found.found,
  c.in_ok-found.ensures.told clean w stands,
  c.hint_of.ensures,
)
