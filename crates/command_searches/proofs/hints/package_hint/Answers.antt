-- What is told is of what was found.
use Rattle.command_searches.proofs.hints.package_hint.Goals as goal

pub returns : goal.returns
returns g c = λ w stands. (c.in_ok-found.found, c.in_ok-found.ensures w stands, c.hint_of.ensures)
