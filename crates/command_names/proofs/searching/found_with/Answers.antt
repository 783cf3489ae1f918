-- One more is found as the words of the search have it.
use Rattle.std.proofs.Common.{subst, sym}
use Rattle.command_names.specs.Searching.{IsFound}
use Rattle.command_names.proofs.Found.{found_more}
use Rattle.command_names.proofs.searching.found_with.Goals as goal

pub returns : goal.returns
returns c = λ before it.
    subst (IsFound c.args.word.now _) (sym c.found_next.ensures)
    (found_more c.args.word.now before c.args.found c.args.id it)
